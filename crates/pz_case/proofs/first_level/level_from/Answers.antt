use Rattle.std.proofs.Common.{sym, ◌∙◌}
use Rattle.pz_case.proofs.FirstLevel.{found_playable}
use Rattle.pz_case.proofs.first_level.level_from.Goals as goal

pub returns-in-Some-clause-playable : goal.returns-in-Some-clause-playable
returns-in-Some-clause-playable c =
    found_playable c.args.game.now.levels c.levels-levels.result.now c.args.index c.in-Some.passed c.levels-levels.ensures.levels (sym c.passed_over.ensures.passed ∙ c.in-Some.is)
