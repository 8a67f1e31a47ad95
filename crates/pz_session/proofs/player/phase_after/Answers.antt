use Rattle.pz_session.proofs.Common.{arith, to_come}
use Rattle.pz_session.proofs.player.phase_after.Goals as goal

pub returns-then-goes_on-clause-to_come : goal.returns-then-goes_on-clause-to_come
unfolding to_come
returns-then-goes_on-clause-to_come c taken inputs = grind arith

pub returns-clause-to_come : goal.returns-clause-to_come
unfolding to_come
returns-clause-to_come c taken inputs = grind arith
