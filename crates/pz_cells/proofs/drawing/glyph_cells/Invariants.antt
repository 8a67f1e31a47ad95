use Rattle.pz_cells.proofs.Common.{take, glyph_cell}
use Rattle.pz_cells.proofs.DrawLemmas.{AreGlyphs}
use Rattle.pz_cells.proofs.drawing.glyph_cells.Given as goal

abbrev pub invariant-loop-number : goal.invariant-loop-number
invariant-loop-number g l = AreGlyphs l.layers (glyph_cell l.game) (take l.number-index l.numbers) l.cells.items
