-- A level as it is drawn, and as its background is filled: each cell with nothing on a layer gets a piece there.
use Rattle.std.specs.Prelude.{ℕ, ◌*◌, ◌≤◌, length, map}
use Rattle.pz_game.specs.declared.game.GameParts.{GameParts}
use Rattle.pz_game.specs.Drawing.{Drawing}
use Rattle.pz_cells.specs.declared.piece.Piece.{Piece}
pub use Rattle.pz_cells.specs.Drawing.{with_object, glyph_cell, filled_cell}
use Rattle.pz_sheet.specs.Grid.{Grid}

-- so many words a set have room for each object of a game, and for where each layer heads
abbrev pub IsRoomFor : ℕ → GameParts → Type 0
IsRoomFor words game = (length game.layers ≤ 128 * words) × (game.depth ≤ 25 * words)

-- the level as it is drawn, before its background is filled
abbrev pub drawn_level : GameParts → Drawing → Grid
drawn_level game drawing = record {
  width = drawing.width;
  height = drawing.height;
  depth = game.depth;
  layers = game.layers;
  cells = map (glyph_cell game) drawing.cells;
}

-- the level with this piece in each cell where nothing stands on the layer
abbrev pub with_piece_everywhere : ℕ → Piece → Grid → Grid
with_piece_everywhere layer piece grid = record grid { cells = map (filled_cell layer piece) grid.cells }
