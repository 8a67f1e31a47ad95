use Rattle.pz_cells.proofs.Common.{◌≡◌, drop, fold, pieces_of_cell, IsSound, with_object, glyph_cell, glyph_objects}
use Rattle.pz_cells.proofs.drawing.glyph_cell.Given as goal

abbrev pub invariant-loop-object : goal.invariant-loop-object
invariant-loop-object g l = record {
  sound : IsSound l.layers l.cell;
  rest : fold (with_object l.layers.layers) (pieces_of_cell l.layers l.cell) (drop l.object-index (glyph_objects l.game l.number)) ≡ glyph_cell l.game l.number;
}
