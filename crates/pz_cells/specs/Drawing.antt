-- A cell as it is drawn and filled: it gets its glyph's objects in order, and a later one replaces one of its layer.
use Rattle.std.specs.Prelude.{ℕ, List, fold, Option, Some, None, unwrap_or, slice_index, slice_index_or, slice_set}
use Rattle.pz_game.specs.Game.{glyph_objects}
use Rattle.pz_game.specs.declared.game.GameParts.{GameParts}
use Rattle.pz_cells.specs.declared.piece.Piece.{Piece}
use Rattle.pz_cells.specs.Cell.{still_piece, empty_cell}

-- an object put on its layer, still, instead of what stood there
abbrev pub with_object : List ℕ → List (Option Piece) → ℕ → List (Option Piece)
with_object layers cell object = slice_set cell (slice_index layers object) (Some (still_piece object))

-- load.glyphs: the cell that the glyph of this number draws
abbrev pub glyph_cell : GameParts → ℕ → List (Option Piece)
glyph_cell game number = fold (with_object game.layers) (empty_cell game.depth) (glyph_objects game number)

-- a cell with this piece on a layer, if nothing stands there
abbrev pub filled_cell : ℕ → Piece → List (Option Piece) → List (Option Piece)
filled_cell layer piece cell = slice_set cell layer (Some (unwrap_or (slice_index_or cell layer None) piece))
