-- A row's cells before its gap stand one after another.
use Rattle.pz_grid.proofs.Common.{Bool, Dir, Grid, IsRow, Item, List, None, Option, Place, RuleRow, Some, [], ap, arith, cell_holds, cells_before, enumerate_from, enumerate_more, get_or, get_or-take, head_of, holds_along, holds_behind, le-leb, leb-true, length-take, list_all, refl, row_holds, run_holds, sym, take, true, ℕ, ◌+◌, ◌∙◌, ◌∷◌, ◌≡◌}
use Rattle.pz_grid.proofs.FoldLemmas.{all_from_each, each_from_all, first_from_each}
use Rattle.pz_grid.proofs.PlaceLemmas.{holds_each_cell}

-- tests that agree
all_alike : {X : Type 0} (p q : ℕ × X → Bool) (xs : List X) (n : ℕ) → ((k : ℕ) (x : X) → p (k, x) ≡ q (k, x)) → list_all p (enumerate_from n xs) ≡ list_all q (enumerate_from n xs)
all_alike p q [] n h = refl
all_alike p q (x ∷ xs) n h = grind (arith, h n x, all_alike p q xs (n + 1) h)

-- the cells of a row without a gap stand one after another
pub row_is_run : (grid : Grid) (row : RuleRow) (dir : Dir) (place : Place) → row.gap_at ≡ None → row_holds grid row dir place ≡ run_holds grid dir place.x place.y row.cells
row_is_run grid row dir place none = all_alike (cell_holds grid row dir place) (holds_along grid dir place.x place.y) row.cells 0 (λ k pattern. grind (arith, none))

-- where a row holds the cells before its gap do
pub head_from_row : (grid : Grid) (row : RuleRow) (dir : Dir) (place : Place) → row_holds grid row dir place ≡ true → run_holds grid dir place.x place.y (head_of row) ≡ true
head_from_row grid row dir place h = by_gap row.gap_at refl where
  by_gap : (gap_at : Option ℕ) → row.gap_at ≡ gap_at → run_holds grid dir place.x place.y (cells_before gap_at row.cells) ≡ true
  by_gap None e = sym (row_is_run grid row dir place e) ∙ h
  by_gap (Some at) e = all_from_each (holds_along grid dir place.x place.y) (take at row.cells) [] (λ k within.
      grind (arith, e, length-take at row.cells, get_or-take at row.cells k [], leb-true at k, holds_each_cell grid row dir place k))

-- where the cells before a gap hold and so does the one behind it, what is left is the rest
pub begun_with_gap : (grid : Grid) (row : RuleRow) (dir : Dir) (place : Place) (at : ℕ) (behind : List Item) → IsRow row → row.gap_at ≡ Some at → behind ≡ get_or row.cells at behind → run_holds grid dir place.x place.y (head_of row) ≡ true → holds_behind grid dir behind at place ≡ true
    → list_all (cell_holds grid row dir place) (take (at + 1) (enumerate_from 0 row.cells)) ≡ true
begun_with_gap grid row dir place at behind law has is head here =
    let within = (rw has at law.between).1 in
    let before : run_holds grid dir place.x place.y (take at row.cells) ≡ true = ap (λ (o : Option ℕ). run_holds grid dir place.x place.y (cells_before o row.cells)) (sym has) ∙ head in
    enumerate_more (cell_holds grid row dir place) row.cells at behind within is
    (first_from_each (cell_holds grid row dir place) row.cells [] at (omega (arith, within)) (λ k low.
    grind (arith, has, within, leb-true at k, get_or-take at row.cells k [] low, length-take at row.cells, each_from_all (holds_along grid dir place.x place.y) (take at row.cells) [] k, before)))
    (grind (arith, has, le-leb at at, here))
