-- What a movement leaves: a piece that has landed is still, nothing moves it, and nothing enters its layer of that cell.
use Rattle.std.specs.Prelude.{◌≡◌, ℕ, ◌+◌, ◌*◌, ◌<◌, List, [], true, ◌⊎◌, Option, Some, None, slice_index_or}
use Rattle.pz_cells.specs.declared.piece.Piece.{Piece}
use Rattle.pz_cells.specs.Cell.{still_piece}
use Rattle.pz_sheet.specs.Grid.{Grid, LevelState}
use Rattle.pz_grid.specs.Marks.{is_marked}

-- an object stands still on a layer of the cell of this number
abbrev pub IsStill : List (List (Option Piece)) → ℕ → ℕ → ℕ → Type 0
IsStill cells index layer object = slice_index_or (slice_index_or cells index []) layer None ≡ Some (still_piece object)

-- each object that stands still goes on standing there
abbrev pub KeepsStill : Grid → Grid → Type 0
KeepsStill old new = (index layer object : ℕ) → IsStill old.cells index layer object → IsStill new.cells index layer object

-- an object stands still somewhere in a row
pub record IsStillInRow (grid : Grid) (line object : ℕ) : Type 0 where
  pub x : ℕ
  pub layer : ℕ
  pub inside : x < grid.width
  pub there : IsStill grid.cells (line * grid.width + x) layer object

-- an object stands still somewhere in a column
pub record IsStillInColumn (grid : Grid) (line object : ℕ) : Type 0 where
  pub y : ℕ
  pub layer : ℕ
  pub inside : y < grid.height
  pub there : IsStill grid.cells (y * grid.width + line) layer object

-- a part of a movement: what is still stays, and each line's marks get only what has landed in the line
pub record IsMove (old new : LevelState) : Type 0 where
  pub width : new.grid.width ≡ old.grid.width
  pub height : new.grid.height ≡ old.grid.height
  pub still : KeepsStill old.grid new.grid
  pub rows : (line object : ℕ) → is_marked new.row_marks line object ≡ true → (is_marked old.row_marks line object ≡ true) ⊎ IsStillInRow new.grid line object
  pub columns : (line object : ℕ) → is_marked new.column_marks line object ≡ true → (is_marked old.column_marks line object ≡ true) ⊎ IsStillInColumn new.grid line object
