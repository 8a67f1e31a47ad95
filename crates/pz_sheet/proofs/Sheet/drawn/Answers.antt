use Rattle.pz_sheet.proofs.Common.{◌∙◌, ap, arith, map, glyph_cell, AreGlyphs, small_cell}
use Rattle.pz_sheet.proofs.MapLemmas.{stored_drawn, drawn_covers}
use Rattle.pz_sheet.proofs.Sheet.drawn.Goals as goal

pub noted-requires : goal.noted-requires
noted-requires g c =
    let glyphs : AreGlyphs c.in_ok-layers.layers (glyph_cell c.args.game.now) c.args.drawing.now.cells c.in_ok-cells.cells.items = record { sound = c.in_ok-cells.ensures.sound; cells_are = c.in_ok-cells.ensures.cells ∙ ap (map (glyph_cell c.args.game.now)) c.cells.ensures.cells } in
    let covers = drawn_covers g.row.N c.args.game.now c.args.drawing.now c.width-width.result c.height-height.result c.in_ok-layers.layers c.in_ok-cells.cells.items c.cells.ensures.drawing c.width-width.ensures.width c.height-height.ensures.height glyphs in
    (omega arith, (small_cell _ c.requires.short, (rw (c.width-width.ensures.width, c.height-height.ensures.height) c.cells.ensures.drawing.size, (rw c.deref.ensures.value covers, rw c.deref.ensures.value c.in_ok-cells.ensures.sound))))

pub invariant_of-result : goal.invariant_of-result
invariant_of-result g c =
    let cells = c.in_ok-cells.cells.items in
    let glyphs : AreGlyphs c.in_ok-layers.layers (glyph_cell c.args.game.now) c.args.drawing.now.cells cells = record { sound = c.in_ok-cells.ensures.sound; cells_are = c.in_ok-cells.ensures.cells ∙ ap (map (glyph_cell c.args.game.now)) c.cells.ensures.cells } in
    record {
      stored = stored_drawn g.row.N c.args.game.now c.args.drawing.now c.width-width.result c.height-height.result c.in_ok-layers.layers cells c.in_ok-notes.notes c.in_ok-notes.ensures.law c.cells.ensures.drawing c.width-width.ensures.width c.height-height.ensures.height glyphs (rw c.deref.ensures.value at c.in_ok-notes.ensures.notes);
      placed = rw c.deref.ensures.value at c.in_ok-notes.ensures.planes;
    }
