use Rattle.pz_turn.proofs.Common.{subst, IsBlockOf}
use Rattle.pz_turn.specs.Step.{block_runs}
use Rattle.pz_turn.proofs.stepping.BlockRunnable.run.Goals as goal

pub to_rest-requires : goal.to_rest-requires
to_rest-requires c = record { of_game = rw c.items.ensures (subst (IsBlockOf c.args.level.now.grid.layers) c.in-Loop.is c.requires.of_game) }

pub returns-in-Loop-clause-outcome : goal.returns-in-Loop-clause-outcome
unfolding block_runs
returns-in-Loop-clause-outcome c = rw c.in-Loop.is (rw c.items.ensures at c.to_rest.ensures.outcome)
