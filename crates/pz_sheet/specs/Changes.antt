-- The cells in which an older level differs from another of its size, and a level with cells replaced.
use Rattle.std.specs.Prelude.{◌≡◌, ℕ, ◌+◌, ◌<◌, ◌≤◌, List, [], ◌∷◌, Option, Bool, false, not, length, map, fold, slice_set, if◌then◌else◌}
use Rattle.pz_cells.specs.declared.piece.Piece.{Piece}
use Rattle.pz_cells.specs.Sameness.{same_cell}
use Rattle.pz_sets.specs.Sets.{in_word}
use Rattle.pz_sheet.specs.declared.changes.Change.{Change}
use Rattle.pz_sheet.specs.declared.changes.KnownChanges.{KnownChanges}
use Rattle.pz_sheet.specs.Grid.{Grid, layers_in}
use Rattle.pz_cells.specs.Layering.{Layering}
use Rattle.pz_sheet.specs.Presence.{cell_of}
use Rattle.pz_cells.specs.Lists.{pieces_of_cell, IsSound}

-- a change: the number of a cell, and what stood there
pub record CellChange : Type 0 where
  pub number : ℕ
  pub cell : List (Option Piece)

-- the cells in which older ones differ, each with what stood there; the first cell has this number
abbrev pub changed_from : ℕ → List (List (Option Piece)) → List (List (Option Piece)) → List CellChange
changed_from number (cell ∷ cells) (old ∷ older) =
    if same_cell cell old then changed_from (number + 1) cells older else record { number = number; cell = old } ∷ changed_from (number + 1) cells older
changed_from number _ _ = []

-- the cells in which an older level differs
abbrev pub changed_cells : Grid → Grid → List CellChange
changed_cells grid older = changed_from 0 grid.cells older.cells

-- a change, seen by layers
abbrev pub change_seen : {N : ℕ} → Layering → Change N → CellChange
change_seen layering change = record { number = change.index; cell = pieces_of_cell layering change.cell }

-- changes of a level's cells, seen by layers
abbrev pub changes_seen : {N : ℕ} → Grid → List (Change N) → List CellChange
changes_seen grid changes = map (change_seen (layers_in grid)) changes

-- a change of a cell of the level, in words of the game
pub record IsChangeOf {N : ℕ} (grid : Grid) (change : Change N) : Type 0 where
  pub within : change.index < length grid.cells
  pub sound : IsSound (layers_in grid) change.cell

-- the level with one cell replaced
abbrev pub with_cell : Grid → CellChange → Grid
with_cell grid change = record grid { cells = slice_set grid.cells change.number change.cell }

-- the level with these cells put back
abbrev pub with_cells_back : List CellChange → Grid → Grid
with_cells_back changes grid = fold with_cell grid changes

-- two levels differ in the cell of this number
abbrev pub differ_in : Grid → Grid → ℕ → Bool
differ_in grid other number = not (same_cell (cell_of grid number) (cell_of other number))

-- what stands in the cell of this number
abbrev pub cell_there : Grid → ℕ → CellChange
cell_there grid number = record { number = number; cell = cell_of grid number }

-- of some cells, all of them before a number, it is known which pass a test
pub record TellsOf (test : ℕ → Bool) (end : ℕ) (known : KnownChanges) : Type 0 where
  pub within : known.first + known.count ≤ end
  pub each : (at : ℕ) → at < known.count → in_word known.places at ≡ test (known.first + at)

-- none of the numbers from one on and before another passes a test
abbrev pub IsClear : (ℕ → Bool) → ℕ → ℕ → Type 0
IsClear test from behind = (from ≤ behind) × ((number : ℕ) → from ≤ number → number < behind → test number ≡ false)
