-- A piece that is carried to another position. Where nothing heads anywhere: at a position of the map, in rows of a column, and in a
-- level in which movement is over.
use Rattle.std.specs.Prelude.{◌≡◌, ◌≤◌, ◌<◌, ℕ, Some, None, map}
use Rattle.pz_cells.specs.declared.piece.Mover.{Mover}
use Rattle.pz_cells.specs.Cell.{still_piece, still_place}
use Rattle.pz_sheet.specs.Grid.{Grid, cell_at, with_place}

-- a piece goes from a position to another, and is still there
abbrev pub with_piece_moved : Grid → ℕ → ℕ → Mover → ℕ → ℕ → Grid
with_piece_moved grid x y mover next_x next_y =
    with_place (with_place grid x y mover.layer None) next_x next_y mover.layer (Some (still_piece mover.object))

-- nothing at a position of the map heads anywhere
abbrev pub IsStillAt : Grid → ℕ → ℕ → Type 0
IsStillAt grid x y = cell_at grid x y ≡ map still_place (cell_at grid x y)

-- nothing in a column heads anywhere in the rows from one on and before another
abbrev pub AreStill : Grid → ℕ → ℕ → ℕ → Type 0
AreStill grid x from end = (y : ℕ) → from ≤ y → y < end → IsStillAt grid x y

-- nothing in the columns from one on and before another heads anywhere
abbrev pub AreColumnsStill : Grid → ℕ → ℕ → Type 0
AreColumnsStill grid from end = (x : ℕ) → from ≤ x → x < end → AreStill grid x 0 grid.height

abbrev pub still_level : Grid → Grid
still_level grid = record grid { cells = map (map still_place) grid.cells }
