use Rattle.pz_sheet.proofs.Common.{layers_in}
use Rattle.pz_sheet.proofs.SheetLemmas.{cell_seen, low_place}
use Rattle.pz_sheet.proofs.Sheet.place.Goals as goal

pub returns-clause-on_layer : goal.returns-clause-on_layer
returns-clause-on_layer g c = rw (c.place.ensures, c.layers-layers.ensures.layers) ((cell_seen g.row.N (layers_in c.args.self.now.grid) c.cell.result.now c.cell.ensures.sound).on_layers c.args.layer)

pub returns-clause-low : goal.returns-clause-low
returns-clause-low g c = low_place c.args.self.now.grid.layers c.args.layer c.place.result c.layers-layers.ensures.law.few (returns-clause-on_layer g c)
