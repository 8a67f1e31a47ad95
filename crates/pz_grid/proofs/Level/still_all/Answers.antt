use Rattle.pz_grid.proofs.Common.{still_place}
use Rattle.pz_grid.proofs.MarkLemmas.{marked_map, still_same}
use Rattle.pz_grid.proofs.Level.still_all.Goals as goal

pub invariant_of-self : goal.invariant_of-self
invariant_of-self c = rw c.still_all.ensures.stilled (marked_map _ still_place still_same c.self.invariant)

pub returns-clause-marked : goal.returns-clause-marked
returns-clause-marked c = invariant_of-self c
