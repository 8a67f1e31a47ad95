-- A level as it is loaded. Each cell gets its glyph's objects in order; a later one replaces one of its layer. Then each cell
-- with nothing on the background's layer gets the object of the first cell with one there: columns from the left, each from the
-- top. If no cell has one, it gets the first object of the background.
use Rattle.std.specs.Prelude.{ℕ, List, [], ◌∷◌, map, Option, Some, None, unwrap_or, slice_index}
use Rattle.std.specs.List.{range_with_len}
use Rattle.pz_game.specs.Game.{background_of}
use Rattle.pz_game.specs.declared.game.GameParts.{GameParts}
use Rattle.pz_game.specs.Drawing.{Drawing}
use Rattle.pz_game.specs.Level.{entry_at}
use Rattle.pz_game.specs.declared.level.LevelEntry.{LevelEntry}
use Rattle.pz_game.specs.declared.level.LevelEntry.TheVariants.{Message, Level}
use Rattle.pz_cells.specs.declared.piece.Piece.{Piece}
use Rattle.pz_cells.specs.Cell.{still_piece}
use Rattle.pz_sheet.specs.Grid.{Grid, place_at}
use Rattle.pz_sheet.specs.Loading.{drawn_level, with_piece_everywhere}

-- the first element that is there
abbrev pub first_of : {X : Type 0} → List (Option X) → Option X
first_of [] = None
first_of (None ∷ xs) = first_of xs
first_of (Some x ∷ xs) = Some x

abbrev pub first_in_column : Grid → ℕ → ℕ → Option Piece
first_in_column grid layer x = first_of (map (λ y. place_at grid x y layer) (range_with_len 0 grid.height))

-- what stands on a layer in the first cell with something there
abbrev pub first_on : Grid → ℕ → Option Piece
first_on grid layer = first_of (map (first_in_column grid layer) (range_with_len 0 grid.width))

-- load.background: the level with a background in each cell; `object` is the background's first, and `layer` is its layer
abbrev pub with_background : ℕ → ℕ → Grid → Grid
with_background layer object grid = with_piece_everywhere layer (unwrap_or (first_on grid layer) (still_piece object)) grid

-- a message draws nothing
abbrev pub drawing_of : LevelEntry → Drawing
drawing_of Message = record { width = 0; height = 0; cells = [] }
drawing_of (Level drawing) = drawing

abbrev pub loaded_from : GameParts → Drawing → Grid
loaded_from game drawing = with_background (slice_index game.layers (background_of game)) (background_of game) (drawn_level game drawing)

-- the level of the entry of this number
abbrev pub level_of_entry : GameParts → ℕ → Grid
level_of_entry game index = loaded_from game (drawing_of (entry_at game index))
