use Rattle.pz_grid.proofs.Common.{append-nil, arith, common_steps}
use Rattle.pz_grid.proofs.FoundLemmas.{found_nowhere}
use Rattle.pz_grid.proofs.Level.add_searched.Goals as goal

pub returns-in_default : goal.returns-in_default
returns-in_default c = grind (arith, common_steps, append-nil, found_nowhere c.args.self.now.grid c.args.row.now c.args.dir c.args.line c.in_default.ensures.walk)
