use Rattle.pz_grid.proofs.MarkLemmas.{marked_map, pushed_same}
use Rattle.pz_grid.proofs.pushing.push_players.Goals as goal

pub invariant_of-level : goal.invariant_of-level
invariant_of-level c = rw c.push_all.ensures.pushed (marked_map _ _ (pushed_same _ _) c.level.invariant)

pub returns-clause-marked : goal.returns-clause-marked
returns-clause-marked c = invariant_of-level c
