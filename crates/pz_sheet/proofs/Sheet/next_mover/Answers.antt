use Rattle.pz_sheet.proofs.Common.{cell_at, layers_in}
use Rattle.pz_sheet.proofs.SheetLemmas.{cell_seen, low_mover}
use Rattle.pz_sheet.proofs.Sheet.next_mover.Goals as goal

pub returns-clause-next : goal.returns-clause-next
returns-clause-next g c = rw (c.layers-layers.ensures.layers, c.cell.ensures.cell, c.index.ensures.index) at c.next_mover.ensures

pub returns-clause-low : goal.returns-clause-low
returns-clause-low g c =
    let grid = c.args.self.now.grid in
    low_mover g.row.N (layers_in grid) (cell_at grid c.args.x c.args.y) c.args.from c.next_mover.result c.layers-layers.ensures.law (rw (c.cell.ensures.cell, c.index.ensures.index) at (cell_seen g.row.N (layers_in grid) c.cell.result.now c.cell.ensures.sound)) (returns-clause-next g c)
