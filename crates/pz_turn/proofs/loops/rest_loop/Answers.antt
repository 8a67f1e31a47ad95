use Rattle.pz_turn.proofs.loops.rest_loop.Goals as goal

pub to_rest-given-requires : goal.to_rest-given-requires
to_rest-given-requires c = record { of_game = rw (c.items.ensures, c.requires.level_of.layers) c.requires.groups_of }

pub returns-clause-outcome : goal.returns-clause-outcome
returns-clause-outcome c = c.as_pair.ensures.both _ (rw c.items.ensures at c.to_rest-given.ensures.outcome)
