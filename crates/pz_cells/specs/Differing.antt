-- The next cell in which two lists of cells in words differ.
use Rattle.std.specs.Prelude.{ℕ, ◌<◌, ◌≤◌, List, Option, Some, None, length, slice_index_or}
use Rattle.pz_cells.specs.declared.cell.Cell.{Cell}
use Rattle.pz_cells.specs.Lists.{AreAlike}

-- the cells from `from` to before `end` are alike in both lists
abbrev pub AreAlikeBetween : {N : ℕ} → List (Cell N) → List (Cell N) → ℕ → ℕ → Type 0
AreAlikeBetween {N} a b from end = (index : ℕ) (cell other : Cell N) → from ≤ index → index < end → AreAlike (slice_index_or a index cell) (slice_index_or b index other)

-- the cells of this number are not alike
abbrev pub Differ : {N : ℕ} → List (Cell N) → List (Cell N) → ℕ → Type 0
Differ {N} a b index = (cell other : Cell N) → AreAlike (slice_index_or a index cell) (slice_index_or b index other) → ⊥

-- the first cell, from `from` on, in which both lists differ, if there is one
abbrev pub IsNextDiffering : {N : ℕ} → List (Cell N) → List (Cell N) → ℕ → Option ℕ → Type 0
IsNextDiffering a b from None = AreAlikeBetween a b from (length a)
IsNextDiffering a b from (Some found) = (from ≤ found) × (found < length a) × Differ a b found × AreAlikeBetween a b from found
