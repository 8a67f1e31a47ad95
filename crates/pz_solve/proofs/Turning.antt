-- A level becomes another one whose cells have other numbers.
use Rattle.std.proofs.Common.{◌≡◌, ℕ, zero, suc, ◌+◌, ◌<◌, ◌≤◌, ◌++◌, false, List, [], ◌∷◌, map, length, length-set, get_or, Some, None, sym, ap, ◌∙◌, arith, inl, inr, nat_eq, Option, subst}
use Rattle.std.specs.Prelude.{option_map, slice_get}
use Rattle.std.specs.List.{list_any}
use Rattle.std.proofs.lemmas.List.{get_or_past}
use Rattle.std.proofs.lemmas.Grind.{common_steps}
use Rattle.std.proofs.lemmas.List.Folds.{list_any-append}
use Rattle.std.proofs.lemmas.Option.{same_Some, slice_get-get_or, slice_get_cases, slice_get_past}
use Rattle.pz_bare.specs.Differing.{DifferWithin}
use Rattle.pz_bare.proofs.DifferingLemmas.{same_without}
use Rattle.pz_cells.proofs.SameLemmas.{same_cell_is}
use Rattle.pz_sheet.specs.Changes.{CellChange, changed_from, with_cell, cell_there}
use Rattle.pz_sheet.specs.Grid.{Grid, LevelState, SameSize}
use Rattle.pz_sheet.specs.Presence.{cell_of}
use Rattle.pz_store.specs.Book.{AreNumbers, CellSeen, Extends}
use Rattle.pz_store.specs.Digest.{digest_of}
use Rattle.pz_store.specs.Levels.{LevelsState, changed_places}
use Rattle.pz_store.proofs.Rowing.{row_still}
use Rattle.pz_store.proofs.Listing.{still_there}
use Rattle.pz_solve.specs.Origin.{AreSameBut, OriginState, IsAt, IsPlayedFrom}

-- rows are the same in the first cells, but in these
abbrev pub AreSameBelow : ℕ → List ℕ → List ℕ → List ℕ → Type 0
AreSameBelow end cells old new = (index : ℕ) → index < end → list_any (nat_eq index) cells ≡ false → slice_get old index ≡ slice_get new index

-- one cell more, that is noted or in which they are the same
pub one_noted : (end : ℕ) (cells old new : List ℕ) → AreSameBelow end cells old new → AreSameBelow (end + 1) (cells ++ end ∷ []) old new
one_noted end cells old new same index below none = grind (arith, common_steps, list_any-append (nat_eq index) cells (end ∷ []), same index, none, below)

pub one_passed : (end : ℕ) (cells old new : List ℕ) → end < length old → length new ≡ length old → get_or old end 0 ≡ get_or new end 0 → AreSameBelow end cells old new → AreSameBelow (end + 1) cells old new
one_passed end cells old new low long is same index below none = grind (arith, same index, none, below, is, slice_get-get_or old end 0, slice_get-get_or new end 0, low, long)

-- they are the same behind their ends
pub all_same : (end : ℕ) (cells old new : List ℕ) → length old ≤ end → length new ≡ length old → AreSameBelow end cells old new → AreSameBut cells old new
all_same end cells old new high long same index none = elim (slice_get_cases old index).1 [
  | inl is ↦ same index (omega (arith, is.1, high)) none
  | inr past ↦ past.1 ∙ sym (slice_get_past new index (omega (arith, past.0, long)))
]

-- levels whose numbers are the same but in some cells differ in these at most
pub differ_within : (cells : List CellSeen) (numbers others changed : List ℕ) (grid there : Grid) → AreNumbers cells numbers grid → AreNumbers cells others there → length grid.cells ≡ length there.cells → AreSameBut changed numbers others → DifferWithin changed grid there
differ_within cells numbers others changed grid there are are_there long same index none = elim (slice_get_cases numbers index).1 [
  | inl is ↦ same_Some (cell_of grid index) (cell_of there index) (sym (are.each index is.0 is.2) ∙ are_there.each index is.0 (sym (same index none) ∙ is.2))
  | inr past ↦ get_or_past grid.cells index [] (omega (arith, past.0, are.long)) ∙ sym (get_or_past there.cells index [] (omega (arith, past.0, are.long, long)))
]

-- the level in which the cell of a number was put has that cell of the level whose number it is
pub put_is : (cells : List CellSeen) (numbers : List ℕ) (grid new there : Grid) (index number : ℕ) → AreNumbers cells numbers there → slice_get numbers index ≡ Some number
    → option_map (λ (cell : CellSeen). with_cell grid (record { number = index; cell = cell })) (slice_get cells number) ≡ Some new → new ≡ with_cell grid (cell_there there index)
put_is cells numbers grid new there index number are is put =
    let set = λ (cell : CellSeen). with_cell grid (record { number = index; cell = cell }) in
    same_Some new (with_cell grid (cell_there there index)) (sym put ∙ ap (λ (cell : Option CellSeen). option_map set cell) (are.each index number is))

-- it keeps its size
pub put_keeps : (frame grid new : Grid) (index : ℕ) (cell : Option CellSeen) → option_map (λ (cell : CellSeen). with_cell grid (record { number = index; cell = cell })) cell ≡ Some new → SameSize frame grid → SameSize frame new × (length new.cells ≡ length grid.cells)
put_keeps frame grid new index None put size = absurd cc
put_keeps frame grid new index (Some cell) put size =
    let is = same_Some (with_cell grid (record { number = index; cell = cell })) new put in
    (rw (← is) (record { width = size.width; height = size.height; depth = size.depth; layers = size.layers }), rw (← is) (length-set grid.cells index cell))

-- the cells that changed are those in which two levels differ at most
in_changed : (number : ℕ) (cells older : List CellSeen) (k : ℕ) → length cells ≡ length older → list_any (nat_eq (number + k)) (map (λ (change : CellChange). change.number) (changed_from number cells older)) ≡ false → get_or cells k [] ≡ get_or older k []
in_changed number [] [] k long none = grind arith
in_changed number [] (old ∷ older) k long none = absurd (omega (arith, long))
in_changed number (cell ∷ cells) [] k long none = absurd (omega (arith, long))
in_changed number (cell ∷ cells) (old ∷ older) zero long none = grind (arith, none, same_cell_is cell old)
in_changed number (cell ∷ cells) (old ∷ older) (suc k) long none = grind (arith, none, long, in_changed (number + 1) cells older k)

pub within_changed : (grid other : Grid) → length grid.cells ≡ length other.cells → DifferWithin (changed_places grid other) grid other
within_changed grid other long index none =
    let same : 0 + index ≡ index = omega arith in
    in_changed 0 grid.cells other.cells index long (subst (λ (k : ℕ). list_any (nat_eq k) (changed_places grid other) ≡ false) (sym same) none)

-- with more cells that have numbers a level is still where it was
pub at_still : (old new : LevelsState) (origin after : OriginState) → new.frame ≡ old.frame → new.objects ≡ old.objects → new.grids ≡ old.grids → Extends old.cells new.cells →
    after.place ≡ origin.place → after.grid ≡ origin.grid → after.numbers ≡ origin.numbers → after.digest ≡ origin.digest → IsAt old origin → IsAt new after
at_still old new origin after frame objects grids extends place grid numbers digest at = record {
  there = ap (λ (all : List Grid). slice_get all after.place) grids ∙ ap (λ (n : ℕ). slice_get old.grids n) place ∙ at.there ∙ ap (λ (g : Grid). Some g) (sym grid);
  size = rw frame (rw grid at.size);
  numbers = rw numbers (rw grid (record { long = at.numbers.long; each = λ index number is. extends number (cell_of origin.grid index) (at.numbers.each index number is) }));
  row = rw frame (rw numbers (row_still old.frame old.cells new.cells origin.numbers extends at.row));
  digest = digest ∙ at.digest ∙ ap (λ (n : ℕ). digest_of n origin.grid) (sym objects) ∙ ap (λ (g : Grid). digest_of new.objects g) (sym grid);
}

-- a level to play in that equals the one from which presses are tried differs from the next one where that does
pub played_from : (grid next : Grid) (work : LevelState) (cells : List ℕ) → IsPlayedFrom grid [] work → SameSize grid next → length grid.cells ≡ length next.cells → DifferWithin cells grid next → IsPlayedFrom next cells work
played_from grid next work cells was size long differ =
    let is = same_without work.grid grid was.size was.long was.rest in
    record { size = rw is size; long = rw is long; rest = rw is differ }

-- with one level more it is still where it was
pub at_more : (old new : LevelsState) (origin after : OriginState) (grid : Grid) → new.frame ≡ old.frame → new.objects ≡ old.objects → new.cells ≡ old.cells → new.grids ≡ old.grids ++ grid ∷ [] → after ≡ origin → IsAt old origin → IsAt new after
at_more old new origin after grid frame objects cells grids same at = rw same (record {
  there = ap (λ (all : List Grid). slice_get all origin.place) grids ∙ still_there old.grids grid origin.place origin.grid at.there;
  size = rw frame at.size;
  numbers = rw cells at.numbers;
  row = rw (frame, cells) at.row;
  digest = at.digest ∙ ap (λ (n : ℕ). digest_of n origin.grid) (sym objects);
})

-- with the same levels it is still where it was
pub at_same : (old new : LevelsState) (origin after : OriginState) → new.frame ≡ old.frame → new.objects ≡ old.objects → new.cells ≡ old.cells → new.grids ≡ old.grids → after ≡ origin → IsAt old origin → IsAt new after
at_same old new origin after frame objects cells grids same at = rw same (record {
  there = ap (λ (all : List Grid). slice_get all origin.place) grids ∙ at.there;
  size = rw frame at.size;
  numbers = rw cells at.numbers;
  row = rw (frame, cells) at.row;
  digest = at.digest ∙ ap (λ (n : ℕ). digest_of n origin.grid) (sym objects);
})
