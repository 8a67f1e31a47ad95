use Rattle.pz_grid.proofs.Common.{arith}
use Rattle.pz_grid.proofs.SkipLemmas.{places_none}
use Rattle.pz_grid.proofs.Level.is_searched_for.Goals as goal

pub returns-clause-none : goal.returns-clause-none
returns-clause-none c absent dir = places_none c.args.self.now c.args.row.now dir c.marks_all.ensures.marked (grind (arith, absent))
