use Rattle.pz_cells.proofs.DrawLemmas.{no_number}
use Rattle.pz_cells.proofs.ListLemmas.{stilled}
use Rattle.pz_cells.proofs.cell.Cell.still_all.Goals as goal

pub returns-clause-sound : goal.returns-clause-sound
returns-clause-sound g c = (stilled 0 c.args.layers.now.layers c.args.self.now.objects c.args.self.now.movement _ c.requires.sound (no_number g.row.N)).0

pub returns-clause-cell : goal.returns-clause-cell
returns-clause-cell g c = (stilled c.args.layers.now.depth c.args.layers.now.layers c.args.self.now.objects c.args.self.now.movement _ c.requires.sound (no_number g.row.N)).1
