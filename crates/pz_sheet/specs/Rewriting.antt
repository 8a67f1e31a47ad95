-- The rewriting of a cell of a level.
use Rattle.std.specs.Prelude.{ℕ, ◌+◌, ◌*◌, List, Bool, not, slice_set}
use Rattle.pz_game.specs.declared.pattern.Item.{Item}
use Rattle.pz_cells.specs.Rewriting.{rewritten_cell}
use Rattle.pz_cells.specs.Sameness.{same_cell}
use Rattle.pz_sheet.specs.Grid.{Grid, cell_at}

-- a level with one cell rewritten
abbrev pub with_rewritten : Grid → ℕ → ℕ → List Item → List Item → Grid
with_rewritten grid x y left right =
    record grid { cells = slice_set grid.cells (y * grid.width + x) (rewritten_cell left right (cell_at grid x y)) }

-- the rewriting of a cell changes it
abbrev pub changes : Grid → ℕ → ℕ → List Item → List Item → Bool
changes grid x y left right = not (same_cell (rewritten_cell left right (cell_at grid x y)) (cell_at grid x y))
