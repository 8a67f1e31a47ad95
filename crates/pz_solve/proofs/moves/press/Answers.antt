use Rattle.pz_solve.proofs.moves.press.Goals as goal

pub returns-in-Ok-clause-size : goal.returns-in-Ok-clause-size
returns-in-Ok-clause-size c = c.effect.ensures.size c.args.level.now.grid c.in-Ok.ensures.size
