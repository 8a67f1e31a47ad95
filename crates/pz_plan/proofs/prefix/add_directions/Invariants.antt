use Rattle.std.proofs.Common.{◌≡◌, drop}
use Rattle.pz_base.specs.Lists.{added_all}
use Rattle.pz_game.specs.Direction.{same_dir}
use Rattle.pz_plan.proofs.prefix.add_directions.Given as goal

abbrev pub invariant-loop-direction : goal.invariant-loop-direction
invariant-loop-direction l = added_all same_dir l.directions.items (drop l.direction-index l.more) ≡ added_all same_dir l.fn.directions.items l.more
