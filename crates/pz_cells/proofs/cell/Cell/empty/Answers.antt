use Rattle.pz_cells.proofs.DrawLemmas.{seen_empty}
use Rattle.pz_cells.proofs.cell.Cell.empty.Goals as goal

pub returns-clause-sound : goal.returns-clause-sound
returns-clause-sound g c = (seen_empty 0 c.args.layers.now.layers g.row.N).0

pub returns-clause-cell : goal.returns-clause-cell
returns-clause-cell g c = (seen_empty c.args.layers.now.depth c.args.layers.now.layers g.row.N).1
