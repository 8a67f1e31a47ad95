-- Levels of one size, as the numbers of their cells.
use Rattle.std.specs.Prelude.{◌≡◌, ℕ, ◌<◌, List, [], length, map, slice_index_or, All}
use Rattle.pz_sheet.specs.Changes.{CellChange, changed_cells}
use Rattle.pz_sheet.specs.Grid.{Grid}
use Rattle.pz_store.specs.Book.{BookState, CellSeen}
use Rattle.pz_store.specs.Digest.{ArePowers}
use Rattle.pz_store.specs.Rows.{RowsState}

-- what levels are to their callers: a level of the size of all, the number of objects by which they are digested, the cells that have
-- numbers, and the levels in order
pub record LevelsState : Type 0 where
  pub frame : Grid
  pub objects : ℕ
  pub cells : List CellSeen
  pub grids : List Grid

-- the level whose cells have these numbers
abbrev pub level_of : Grid → List CellSeen → List ℕ → Grid
level_of frame cells numbers = record frame { cells = map (λ number. slice_index_or cells number []) numbers }

-- a row for each level, with a number of a cell for each of its cells
pub record IsRow (frame : Grid) (cells : List CellSeen) (row : List ℕ) : Type 0 where
  pub long : length row ≡ length frame.cells
  pub known : All (λ number. number < length cells) row

pub record AreRows (book : BookState) (rows : RowsState) : Type 0 where
  pub long : rows.long ≡ length book.frame.cells
  pub each : All (IsRow book.frame book.cells) rows.rows

-- what holds of levels: each row has a number for each cell, and each cell has its power
pub record AreLevels (book : BookState) (kept : RowsState) (table : List ℕ) : Type 0 where
  pub rows : AreRows book kept
  pub powers : ArePowers (length book.frame.cells) table

-- the numbers of the cells in which another level differs, in order
abbrev pub changed_places : Grid → Grid → List ℕ
changed_places grid other = map (λ (change : CellChange). change.number) (changed_cells grid other)
