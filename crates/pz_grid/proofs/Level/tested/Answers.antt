use Rattle.pz_grid.proofs.Common.{arith, line_length}
use Rattle.pz_grid.proofs.SkipLemmas.{starts_nowhere}
use Rattle.pz_grid.proofs.Level.tested.Goals as goal

pub returns-in_default-clause-low : goal.returns-in_default-clause-low
returns-in_default-clause-low c =
    omega (arith, starts_nowhere c.args.self.now.grid c.args.row.now c.args.dir (line_length c.args.self.now.grid c.args.dir) c.args.line c.in_default.ensures.walk)
