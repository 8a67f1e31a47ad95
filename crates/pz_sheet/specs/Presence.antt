-- Which objects are in a cell, in a row and in a column.
use Rattle.std.specs.Prelude.{◌≡◌, ℕ, Bool, false, All, not, ◌&&◌, ◌||◌, List, [], Option, is_some, slice_index_or}
use Rattle.std.specs.List.{list_any, list_all, range_with_len}
use Rattle.pz_cells.specs.declared.piece.Piece.{Piece}
use Rattle.pz_sheet.specs.declared.line.Line.{Line}
use Rattle.pz_sheet.specs.Grid.{Grid, cell_at}
use Rattle.pz_sheet.specs.Line.{row_of, column_of, line_length, x_at, y_at}
use Rattle.pz_cells.specs.Standing.{standing}

-- an object is in a cell
abbrev pub is_in : List (Option Piece) → ℕ → Bool
is_in cell object = is_some (standing cell object)

-- one of the objects is in a cell
abbrev pub holds_one : List ℕ → List (Option Piece) → Bool
holds_one objects cell = list_any (is_in cell) objects

-- each of the objects is in a cell
abbrev pub holds_each : List ℕ → List (Option Piece) → Bool
holds_each objects cell = list_all (is_in cell) objects

-- none of the objects is in a cell
abbrev pub AreMissing : List ℕ → List (Option Piece) → Type 0
AreMissing objects cell = All (λ object. is_in cell object ≡ false) objects

-- the cell of this number, counted row by row
abbrev pub cell_of : Grid → ℕ → List (Option Piece)
cell_of grid index = slice_index_or grid.cells index []

-- an object stands at a position of a line
abbrev pub stands_in_line : Grid → Line → ℕ → ℕ → Bool
stands_in_line grid line object at = is_in (cell_at grid (x_at line.axis line.number at) (y_at line.axis line.number at)) object

-- an object stands in a line
abbrev pub in_line : Grid → Line → ℕ → Bool
in_line grid line object = list_any (stands_in_line grid line object) (range_with_len 0 (line_length grid line.axis))

-- an object stands in a row
abbrev pub in_row : Grid → ℕ → ℕ → Bool
in_row grid number object = in_line grid (row_of number) object

-- an object stands in a column
abbrev pub in_column : Grid → ℕ → ℕ → Bool
in_column grid number object = in_line grid (column_of number) object

-- one of `objects` is in a cell, and one of `others`
abbrev pub holds_both : List ℕ → List ℕ → List (Option Piece) → Bool
holds_both objects others cell = holds_one objects cell && holds_one others cell

-- if one of `objects` is in a cell, so is one of `others`
abbrev pub holds_if : List ℕ → List ℕ → List (Option Piece) → Bool
holds_if objects others cell = not (holds_one objects cell) || holds_one others cell
