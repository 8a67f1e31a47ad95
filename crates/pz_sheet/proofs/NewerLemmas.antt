-- A level becomes a newer one if it gets the newer one's cells wherever the changes that lead back say that the two differ.
use Rattle.pz_sheet.proofs.Common.{common_steps, map, suc, with_cells_back, ◌≡◌, ℕ, ◌+◌, ◌<◌, List, [], ◌∷◌, Option, Some, None, false, length, get_or, ap, sym, ◌∙◌, refl, arith, fold, IsNext, Piece, same_cell, same_cell_is, same_cell_self, Change, CellChange, changed_from, changed_cells, changes_seen, with_cell, differ_in, cell_there, Grid, SameSize, cell_of}
use Rattle.pz_sheet.proofs.ChangeLemmas.{way_back}

-- cells of a newer level put where changes say
abbrev pub taken : (N : ℕ) → Grid → List (Change N) → Grid → Grid
taken N newer changes grid = fold (λ g change. with_cell g (cell_there newer change.index)) grid changes

pub size_back : (newer grid : Grid) → SameSize newer grid → SameSize grid newer
size_back newer grid size = record { width = sym size.width; height = sym size.height; depth = sym size.depth; layers = sym size.layers }

taken_is : (N : ℕ) (newer : Grid) (changes : List (Change N)) (grid : Grid) → taken N newer changes grid ≡ with_cells_back (map (λ change. cell_there newer change.number) (changes_seen newer changes)) grid
taken_is N newer [] grid = refl
taken_is N newer (change ∷ changes) grid = taken_is N newer changes (with_cell grid (cell_there newer change.index))

same_either_way : (a b : List (Option Piece)) → same_cell a b ≡ same_cell b a
same_either_way a b = grind (arith, same_cell_is a b, same_cell_is b a)

-- the changes that lead back, with the newer one's cells, lead there
turned : (newer : Grid) (number : ℕ) (cells older : List (List (Option Piece))) → ((k : ℕ) → get_or newer.cells (number + k) [] ≡ get_or cells k []) → map (λ change. cell_there newer change.number) (changed_from number cells older) ≡ changed_from number older cells
turned newer number [] [] here = refl
turned newer number [] (old ∷ older) here = refl
turned newer number (cell ∷ cells) [] here = refl
turned newer number (cell ∷ cells) (old ∷ older) here = grind (arith, same_either_way cell old, here 0, turned newer (number + 1) cells older (λ k. grind (arith, here (suc k))))

pub all_taken : (N : ℕ) (newer grid : Grid) (changes : List (Change N)) → SameSize newer grid → length newer.cells ≡ length grid.cells → changes_seen newer changes ≡ changed_cells newer grid → taken N newer changes grid ≡ newer
all_taken N newer grid changes size long e =
    taken_is N newer changes grid ∙ ap (λ (found : List CellChange). with_cells_back (map (λ change. cell_there newer change.number) found) grid) e
    ∙ ap (λ (found : List CellChange). with_cells_back found grid) (turned newer 0 newer.cells grid.cells (λ k. ap (λ (n : ℕ). get_or newer.cells n []) (let e : 0 + k ≡ k = omega arith in e))) ∙ way_back grid newer (size_back newer grid size) (sym long)

-- ---- cells taken where two levels differ, one after another
-- up to the next cell that differs, and with it taken, none does
pub same_before : (grid other : Grid) (from index : ℕ) → IsNext (differ_in grid other) from (length grid.cells) (Some index) → ((number : ℕ) → number < from → differ_in grid other number ≡ false)
    → (number : ℕ) → number < index + 1 → differ_in (with_cell grid (cell_there other index)) other number ≡ false
same_before grid other from index next before number below = grind (arith, common_steps, next.1, next.3 number, before number, same_cell_self (cell_of other index), below)

-- and from there on none
pub same_all : (grid other : Grid) (from : ℕ) → IsNext (differ_in grid other) from (length grid.cells) None → ((number : ℕ) → number < from → differ_in grid other number ≡ false) → (number : ℕ) → number < length grid.cells → differ_in grid other number ≡ false
same_all grid other from none before number within = grind (arith, before number, none number, within)
