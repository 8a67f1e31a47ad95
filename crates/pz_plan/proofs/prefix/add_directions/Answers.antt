use Rattle.std.proofs.Common.{ap, sym, ◌∙◌}
use Rattle.std.proofs.lemmas.List.{drop_all}
use Rattle.pz_base.specs.Lists.{added_all}
use Rattle.pz_game.specs.Direction.{same_dir}
use Rattle.pz_plan.proofs.prefix.add_directions.Goals as goal

pub returns : goal.returns
returns c =
    ap (added_all same_dir c.loop-direction.directions.items) (sym (drop_all c.loop-direction.direction-index c.args.more.now c.loop-direction-test.false)) ∙ c.loop-direction.invariant
