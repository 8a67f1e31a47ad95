use Rattle.pz_turn.proofs.resting.rest.Goals as goal

pub rest_group-given-requires : goal.rest_group-given-requires
rest_group-given-requires c = record { of_game = rw c.requires.level_of.layers c.requires.group_of }

pub returns-clause-outcome : goal.returns-clause-outcome
returns-clause-outcome c = c.as_pair.ensures.both _ c.rest_group-given.ensures.outcome
