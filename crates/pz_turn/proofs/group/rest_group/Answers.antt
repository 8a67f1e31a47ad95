use Rattle.pz_turn.proofs.Segments.{rest_by_segments}
use Rattle.pz_turn.proofs.group.rest_group.Goals as goal

pub to_rest-requires : goal.to_rest-requires
to_rest-requires c = record { of_game = λ number other within. (c.requires.of_game, c.segments.ensures.each number other within) }

pub returns-clause-outcome : goal.returns-clause-outcome
returns-clause-outcome c = rw (← rest_by_segments 200 c.segments.result.now c.args.group.now c.args.level.now.grid c.segments.ensures.whole) c.to_rest.ensures.outcome
