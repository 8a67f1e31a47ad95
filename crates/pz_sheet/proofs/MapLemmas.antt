-- The cells of a level in words are drawn, and changed one by one.
use Rattle.pz_sheet.proofs.Common.{◌≡◌, map, arith, ℕ, ◌*◌, List, Option, length, ◌∙◌, length-map, Cell, Piece, glyph_cell, Layering, IsLayering, pieces_of_cell, AreMapped, AreGlyphs, HeadingSets, AreNoted, IsStored}
use Rattle.pz_game.specs.Drawing.{Drawing, IsDrawing}
use Rattle.pz_game.specs.declared.game.GameParts.{GameParts}

-- ---- the level whose cells are changed
pub long_mapped : {N : ℕ} (layering : Layering) (f : List (Option Piece) → List (Option Piece)) (old new : List (Cell N)) → AreMapped layering f old new → length new ≡ length old
long_mapped layering f old new m = grind (arith, m.cells, length-map new (pieces_of_cell layering), length-map old (pieces_of_cell layering), length-map (map (pieces_of_cell layering) old) f)

pub stored_mapped : (N width height : ℕ) (layering : Layering) (f : List (Option Piece) → List (Option Piece)) (old new : List (Cell N)) (notes next : HeadingSets) → IsStored N width height layering old notes → AreMapped layering f old new → AreNoted N width height next new → IsStored N width height layering new next
stored_mapped N width height layering f old new notes next s m noted = record { size = s.size; law = s.law; covers = long_mapped layering f old new m ∙ s.covers; sound = m.sound; noted = noted }

-- a level as it is drawn has a cell for each position
pub drawn_covers : (N : ℕ) (game : GameParts) (drawing : Drawing) (width height : ℕ) (layering : Layering) (cells : List (Cell N)) → IsDrawing drawing → width ≡ drawing.width → height ≡ drawing.height → AreGlyphs layering (glyph_cell game) drawing.cells cells → length cells ≡ width * height
drawn_covers N game drawing width height layering cells d is_width is_height are = grind (arith, are.cells_are, length-map cells (pieces_of_cell layering), length-map drawing.cells (glyph_cell game))

-- a level as it is drawn is stored with the layers of its game
pub stored_drawn : (N : ℕ) (game : GameParts) (drawing : Drawing) (width height : ℕ) (layering : Layering) (cells : List (Cell N)) (notes : HeadingSets) → IsLayering N layering → IsDrawing drawing → width ≡ drawing.width → height ≡ drawing.height → AreGlyphs layering (glyph_cell game) drawing.cells cells → AreNoted N width height notes cells → IsStored N width height layering cells notes
stored_drawn N game drawing width height layering cells notes law d is_width is_height are noted = record { size = rw (is_width, is_height) d.size; law = law; covers = drawn_covers N game drawing width height layering cells d is_width is_height are; sound = are.sound; noted = noted }
