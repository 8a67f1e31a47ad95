-- The cells in which an older level differs are found one by one, and give it back.
use Rattle.pz_sheet.proofs.Common.{Layering, ◌≡◌, inl, inr, ℕ, zero, suc, ◌+◌, ◌<◌, ◌≤◌, List, [], ◌∷◌, ◌++◌, Option, Some, None, Bool, true, false, not, cond, set, drop, length, ap, ◌∙◌, refl, arith, IsTrue, ◌↔◌, fold, length-append, get_or_default, cases_eq, set-append_seam, All, Cell, Piece, same_cell, same_cell_is, same_cell_self, CellChange, changed_from, changed_cells, with_cell, with_cells_back, differ_in, cell_there, Grid, SameSize, cell_of, IsNext, pieces_of_cell, IsSound, AreAlike}
use Rattle.std.proofs.lemmas.List.{append-nil, append_assoc}
use Rattle.std.proofs.Math.Seq.{drop-length}
use Rattle.pz_base.proofs.ListLemmas.{drop-next}
use Rattle.pz_sheet.proofs.SameLemmas.{seen_alike, alike_seen, are_same}

-- ---- cells put back
abbrev put_back : List (List (Option Piece)) → CellChange → List (List (Option Piece))
put_back cells change = set cells change.number change.cell

restored_cells : (changes : List CellChange) (grid : Grid) → with_cells_back changes grid ≡ record grid { cells = fold put_back grid.cells changes }
restored_cells [] grid = refl
restored_cells (change ∷ changes) grid = restored_cells changes (with_cell grid change)

-- behind a front that is the same already
back_from : (front cells older : List (List (Option Piece))) → length cells ≡ length older → fold put_back (front ++ cells) (changed_from (length front) cells older) ≡ front ++ older
back_from front [] [] long = refl
back_from front [] (old ∷ older) long = absurd (omega (arith, long))
back_from front (cell ∷ cells) [] long = absurd (omega (arith, long))
back_from front (cell ∷ cells) (old ∷ older) long =
    let rest = λ (x : List (Option Piece)). simp (append_assoc, length-append) at (back_from (front ++ x ∷ []) cells older (omega (arith, long))) in
    grind (arith, rest cell, rest old, same_cell_is cell old, set-append_seam front cell cells old)

pub way_back : (grid older : Grid) → SameSize grid older → length grid.cells ≡ length older.cells → with_cells_back (changed_cells grid older) grid ≡ older
way_back grid older size long = grind (arith, restored_cells (changed_cells grid older) grid, back_from [] grid.cells older.cells long)

-- ---- a loop over the cells of both
-- what is left from a cell on
abbrev pub left_from : Grid → Grid → ℕ → List CellChange
left_from grid older index = changed_from index (drop index grid.cells) (drop index older.cells)

pub are_other : (b : Bool) → not b ≡ true → b ≡ false
are_other b h = grind arith

module _ (grid older : Grid) (long : length grid.cells ≡ length older.cells) where
  left_more : (index : ℕ) (same : Bool) → index < length grid.cells → same_cell (cell_of grid index) (cell_of older index) ≡ same → left_from grid older index ≡ cond same (left_from grid older (index + 1)) (cell_there older index ∷ left_from grid older (index + 1))
  left_more index same within is =
      let within_older : index < length older.cells = omega (arith, within, long) in
      grind (arith, is, drop-next grid.cells index (cell_of grid index) within (get_or_default grid.cells index [] (cell_of grid index) within), drop-next older.cells index (cell_of older index) within_older (get_or_default older.cells index [] (cell_of older index) within_older))

  -- cells that are the same leave nothing
  left_behind : (from index : ℕ) → from ≤ index → index ≤ length grid.cells → ((k : ℕ) → from ≤ k → k < index → differ_in grid older k ≡ false) → left_from grid older from ≡ left_from grid older index
  left_behind from zero low high same = grind arith
  left_behind from (suc index) low high same = elim (cases_eq from (suc index)) [
    | inl here ↦ ap (left_from grid older) here
    | inr apart ↦
        left_behind from index (omega (arith, low, apart)) (omega (arith, high)) (λ k from_k below. same k from_k (omega (arith, below)))
        ∙ grind (arith, left_more index true (omega (arith, high)) (are_same _ (same index (omega (arith, low, apart)) (omega arith))))
  ]

  -- one more is found
  pub found_more : (found all : List CellChange) (from index : ℕ) → IsNext (differ_in grid older) from (length grid.cells) (Some index) → found ++ left_from grid older from ≡ all → (found ++ cell_there older index ∷ []) ++ left_from grid older (index + 1) ≡ all
  found_more found all from index next e =
      grind (arith, e, append_assoc found (cell_there older index ∷ []) (left_from grid older (index + 1)), left_behind from index next.0 (omega (arith, next.1)) next.3, left_more index false next.1 (are_other _ next.2))

  -- all are found
  pub all_found : (found all : List CellChange) (from : ℕ) → from ≤ length grid.cells → IsNext (differ_in grid older) from (length grid.cells) None → found ++ left_from grid older from ≡ all → found ≡ all
  all_found found all from low none e = grind (arith, e, append-nil found, drop-length grid.cells, left_behind from (length grid.cells) low (omega arith) none)

-- ---- one cell of two levels
-- the words tell what is seen
module _ (N : ℕ) (layering : Layering) (low : All (λ l. l < layering.depth) layering.layers) where
  pub test_is : (cell other : Cell N) (r : Bool) → IsSound layering cell → IsSound layering other → (IsTrue r ↔ AreAlike cell other) → same_cell (pieces_of_cell layering cell) (pieces_of_cell layering other) ≡ r
  test_is cell other r sound sound_other decides = grind (arith, decides, seen_alike N layering cell other sound sound_other, alike_seen N layering cell other low sound sound_other, same_cell_is (pieces_of_cell layering cell) (pieces_of_cell layering other), same_cell_self (pieces_of_cell layering cell))
