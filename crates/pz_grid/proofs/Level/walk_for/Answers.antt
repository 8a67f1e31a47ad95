use Rattle.pz_grid.proofs.Common.{arith}
use Rattle.pz_grid.proofs.SkipLemmas.{unsearched_nowhere}
use Rattle.pz_grid.proofs.Level.walk_for.Goals as goal

pub returns-then-not-searches_line-clause-walk : goal.returns-then-not-searches_line-clause-walk
returns-then-not-searches_line-clause-walk c = unsearched_nowhere _ _ _ _ c.searches_line.ensures.marked (grind arith)
