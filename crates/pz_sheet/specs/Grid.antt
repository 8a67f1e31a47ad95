-- A grid is a level's value: its cells, with what stands there and where it heads, over a game's collision layers. A level is the
-- thing in memory that has this value: a `BareLevel` without marks, a `Level` with them.
use Rattle.std.specs.Prelude.{◌≡◌, ℕ, ◌+◌, ◌*◌, ◌<◌, ◌≤◌, List, [], Option, None, length, slice_index_or, slice_set, All}
use Rattle.pz_game.specs.declared.limits.TheConstants.{MOST_OBJECTS, MOST_LAYERS}
use Rattle.pz_game.specs.declared.game.GameParts.{GameParts}
use Rattle.pz_game.specs.Size.{IsSize}
use Rattle.pz_cells.specs.declared.piece.Piece.{Piece}
use Rattle.pz_cells.specs.Cell.{IsCell}
use Rattle.pz_cells.specs.Layering.{Layering}

pub record Grid : Type 0 where
  pub width : ℕ
  pub height : ℕ
  -- the number of layers, and the layer of each object of the game
  pub depth : ℕ
  pub layers : List ℕ
  -- the cells, row by row: for each layer nothing, or what stands there
  pub cells : List (List (Option Piece))

-- the layers of a level
abbrev pub layers_in : Grid → Layering
layers_in grid = record { depth = grid.depth; layers = grid.layers }

-- a level without its marks
pub record BareState : Type 0 where
  pub grid : Grid

-- what a level is to its callers: a grid, and a set of objects for each row, for each column and for the whole
pub record LevelState : Type 0 where
  pub grid : Grid
  pub row_marks : List (List ℕ)
  pub column_marks : List (List ℕ)
  pub level_marks : List ℕ

-- a position of the map
abbrev pub IsOnMap : Grid → ℕ → ℕ → Type 0
IsOnMap grid x y = (x < grid.width) × (y < grid.height)

-- the cell at a position of the map
abbrev pub cell_at : Grid → ℕ → ℕ → List (Option Piece)
cell_at grid x y = slice_index_or grid.cells (y * grid.width + x) []

-- what stands on a layer at a position of the map
abbrev pub place_at : Grid → ℕ → ℕ → ℕ → Option Piece
place_at grid x y layer = slice_index_or (cell_at grid x y) layer None

-- the level with this, or nothing, on that layer of that position
abbrev pub with_place : Grid → ℕ → ℕ → ℕ → Option Piece → Grid
with_place grid x y layer place =
    record grid { cells = slice_set grid.cells (y * grid.width + x) (slice_set (cell_at grid x y) layer place) }

-- what holds of every level: it has a cell for each position, each a cell of the game, and is within the limits
pub record IsLawful (grid : Grid) : Type 0 where
  pub covers : length grid.cells ≡ grid.width * grid.height
  pub size : IsSize grid.width grid.height
  pub shallow : grid.depth ≤ MOST_LAYERS
  pub few : length grid.layers ≤ MOST_OBJECTS
  pub layered : All (λ layer. layer < grid.depth) grid.layers
  pub stacked : All (IsCell grid.depth grid.layers) grid.cells

-- two levels of one size and one game
pub record SameSize (old new : Grid) : Type 0 where
  pub width : new.width ≡ old.width
  pub height : new.height ≡ old.height
  pub depth : new.depth ≡ old.depth
  pub layers : new.layers ≡ old.layers

-- a level of the game's objects and layers
pub record IsOfGame (game : GameParts) (grid : Grid) : Type 0 where
  pub layers : grid.layers ≡ game.layers
  pub depth : grid.depth ≡ game.depth
