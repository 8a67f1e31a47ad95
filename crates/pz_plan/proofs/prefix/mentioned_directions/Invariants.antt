use Rattle.std.proofs.Common.{◌≡◌, drop}
use Rattle.std.specs.List.{flat_map}
use Rattle.pz_base.specs.Lists.{added_all, firsts}
use Rattle.pz_game.specs.Direction.{same_dir}
use Rattle.pz_plan.specs.Prefix.{prefix_directions}
use Rattle.pz_plan.proofs.prefix.mentioned_directions.Given as goal

abbrev pub invariant-loop-token : goal.invariant-loop-token
invariant-loop-token l = added_all same_dir l.directions.items (flat_map prefix_directions (drop l.token-index l.prefixes)) ≡ firsts same_dir (flat_map prefix_directions l.prefixes)
