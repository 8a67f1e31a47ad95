use Rattle.pz_cells.proofs.Common.{◌≡◌, get_or, ap, fold, drop_all, with_object, pieces_of_cell}
use Rattle.pz_cells.proofs.DrawLemmas.{drawn_more, glyph_read}
use Rattle.pz_cells.proofs.drawing.glyph_cell.Goals as goal

pub loop-object-preserved : goal.loop-object-preserved
loop-object-preserved g c =
    let put = with_object c.args.layers.now.layers in
    let at = c.loop-object.object-index in
    let objects = c.items-object-items.result.now in
    let are = glyph_read c.args.game.now c.values.result.now c.args.number c.index-values-number.result objects c.values.ensures.values c.requires.number c.items-object-items.ensures in
    let was = pieces_of_cell c.args.layers.now c.loop-object.cell in
    let is : pieces_of_cell c.args.layers.now c.put.new.self ≡ put was (get_or objects at 0) = cc (c.put.ensures.cell, c.layer_of-layer.ensures.layer, c.still.ensures) in
    record {
      sound = c.put.ensures.sound;
      rest = drawn_more put was _ _ _ objects at are c.loop-object-test.true is c.loop-object.invariant.rest;
    }

pub returns-clause-cell : goal.returns-clause-cell
returns-clause-cell g c =
    let put = with_object c.args.layers.now.layers in
    let objects = c.items-object-items.result.now in
    let are = glyph_read c.args.game.now c.values.result.now c.args.number c.index-values-number.result objects c.values.ensures.values c.requires.number c.items-object-items.ensures in
    cc (are, ap (fold put (pieces_of_cell c.args.layers.now c.loop-object.cell)) (drop_all c.loop-object.object-index objects c.loop-object-test.false), c.loop-object.invariant.rest)
