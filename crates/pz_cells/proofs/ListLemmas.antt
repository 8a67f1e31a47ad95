-- Lists of cells in words, changed one by one.
use Rattle.pz_cells.proofs.Common.{inl, inr, ◌^◌, get_or-set_same, get_or-set_other, length-set, range_with_len, ◌≢◌, ◌≡◌, ℕ, ◌+◌, ◌*◌, ◌<◌, ◌≤◌, List, [], Option, Bool, true, false, map, set, length, get_or, sym, ◌∙◌, subst, arith, cases_eq, get_or_default, length-map, get_or-map, ext_get_or, member, Dir, heads, flag, Cell, Piece, still_place, place_of, cell_of, Shows, AreLawful, Layering, pieces_of_cell, IsSound, AreMapped, All}
use prog.Memory.{up}
use Rattle.std.proofs.lemmas.Simd.{map-map}
use Rattle.pz_cells.proofs.PlaceLemmas.{cell_shown, lawful_from_shows}

-- a cell without words
pub no_cell : (N : ℕ) → Cell N
no_cell N = record { objects = []; movement = [] }

pub sound_at : {N : ℕ} (layering : Layering) (cells : List (Cell N)) (at : ℕ) (cell : Cell N) → All (IsSound layering) cells → at < length cells → cell ≡ get_or cells at cell → IsSound layering cell
sound_at layering cells at cell all h is = subst (IsSound layering) (sym is) (all at cell h)

-- a cell of up to four words is no larger than memory
pub small_cell : (n : ℕ) → n ≤ 4 → up 16 (up 16 (0 + n * 16) + n * 16) < 2 ^ 63
small_cell n h = omega arith

-- words that show what a function makes of each place
pub cell_mapped : (depth : ℕ) (layers objects movement objects_new movement_new : List ℕ) (f : Option Piece → Option Piece) → ((object : ℕ) → member objects_new object ≡ true → object < length layers) → ((layer : ℕ) → Shows layers (member objects_new) (heads movement_new layer) layer (f (place_of layers objects movement layer))) → cell_of depth layers objects_new movement_new ≡ map f (cell_of depth layers objects movement)
cell_mapped depth layers objects movement objects_new movement_new f of_game shows =
    cell_shown depth layers objects_new movement_new (λ layer. f (place_of layers objects movement layer)) of_game shows ∙ sym (map-map f (place_of layers objects movement) (range_with_len 0 depth))

-- what has no heading is still
pub still_shows : (layers : List ℕ) (has : ℕ → Bool) (toward toward_new : Dir → Bool) (layer : ℕ) (place : Option Piece) → ((dir : Dir) → toward_new dir ≡ false) → Shows layers has toward layer place → Shows layers has toward_new layer (still_place place)
still_shows layers has toward toward_new layer place none shown = grind (arith, none)

-- words of which the headings were taken away
pub stilled : (depth : ℕ) (layers objects movement movement_new : List ℕ) → AreLawful layers objects movement → ((number : ℕ) → member movement_new number ≡ false) → AreLawful layers objects movement_new × (cell_of depth layers objects movement_new ≡ map still_place (cell_of depth layers objects movement))
stilled depth layers objects movement movement_new lawful none =
    let here = place_of layers objects movement in
    let shows = λ (layer : ℕ). still_shows layers (member objects) (heads movement layer) (heads movement_new layer) layer (here layer) (λ dir. none (flag layer dir)) (lawful.shows layer) in
    (lawful_from_shows layers objects movement_new (λ (layer : ℕ). still_place (here layer)) lawful.of_game shows (λ number high. none number), cell_mapped depth layers objects movement objects movement_new still_place lawful.of_game shows)

-- ---- a loop over the cells
-- of some cells those before a number are changed, as a relation says, and the others are as they were
pub record AreWalked {N : ℕ} (Turns : Cell N → Cell N → Type 0) (old now : List (Cell N)) (index : ℕ) : Type 0 where
  pub long : length now ≡ length old
  pub turned : (k : ℕ) (cell : Cell N) → k < index → Turns (get_or old k cell) (get_or now k cell)
  pub rest : (k : ℕ) (cell : Cell N) → index ≤ k → get_or now k cell ≡ get_or old k cell

-- one cell is changed, and another was before
pub turned_set : {N : ℕ} (Turns : Cell N → Cell N → Type 0) (old now : List (Cell N)) (index k : ℕ) (cell new d : Cell N) → index < length now → cell ≡ get_or now index cell → get_or now index d ≡ get_or old index d → Turns cell new → (k ≢ index → Turns (get_or old k d) (get_or now k d)) → Turns (get_or old k d) (get_or (set now index new) k d)
turned_set {N} Turns old now index k cell new d within is was turns before = elim (cases_eq k index) [
  | inl same ↦ rw (same, get_or-set_same now index new d within, ← was, ← get_or_default now index cell d within, ← is) turns
  | inr other ↦ rw (get_or-set_other now index k new d other) (before other)
]

pub walked_more : {N : ℕ} (Turns : Cell N → Cell N → Type 0) (old now : List (Cell N)) (index : ℕ) (cell new : Cell N) → index < length now → AreWalked Turns old now index → cell ≡ get_or now index cell → Turns cell new → AreWalked Turns old (set now index new) (index + 1)
walked_more Turns old now index cell new within w is turns = record {
  long = length-set now index new ∙ w.long;
  turned = λ k d below. turned_set Turns old now index k cell new d within is (w.rest index d (omega arith)) turns (λ other. w.turned k d (omega (arith, below, other)));
  rest = λ k d above. get_or-set_other now index k new d (λ same. absurd (omega (arith, same, above))) ∙ w.rest k d (omega (arith, above));
}

-- a cell is changed as a function says of what is seen of it
abbrev pub Turns : {N : ℕ} → Layering → (List (Option Piece) → List (Option Piece)) → Cell N → Cell N → Type 0
Turns layering f cell new = IsSound layering new × (pieces_of_cell layering new ≡ f (pieces_of_cell layering cell))

pub walked_all : {N : ℕ} (layering : Layering) (f : List (Option Piece) → List (Option Piece)) (old now : List (Cell N)) → ((k : ℕ) (cell : Cell N) → k < length old → Turns layering f (get_or old k cell) (get_or now k cell)) → length now ≡ length old → AreMapped layering f old now
walked_all {N} layering f old now turned long = record {
  sound = λ k cell within. (turned k cell (omega (arith, within, long))).0;
  cells = ext_get_or [] (map (pieces_of_cell layering) now) (map f (map (pieces_of_cell layering) old)) (grind (arith, long, length-map now (pieces_of_cell layering), length-map old (pieces_of_cell layering), length-map (map (pieces_of_cell layering) old) f)) (λ k within.
      let low : k < length old = omega (arith, within, length-map now (pieces_of_cell layering), long) in
      grind (arith, (turned k (no_cell N) low).1, get_or-map (pieces_of_cell layering) now k (no_cell N) [], get_or-map f (map (pieces_of_cell layering) old) k [] [], get_or-map (pieces_of_cell layering) old k (no_cell N) [] low, low, long, length-map old (pieces_of_cell layering)));
}
