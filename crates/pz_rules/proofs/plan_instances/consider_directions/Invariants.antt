use Rattle.std.proofs.Common.{◌≡◌, take}
use Rattle.std.specs.List.{flat_map}
use Rattle.pz_instances.specs.Equal.{same_instance}
use Rattle.pz_base.specs.Lists.{firsts}
use Rattle.pz_rules.specs.PlanInstances.{possible_of}
use Rattle.pz_rules.proofs.plan_instances.consider_directions.Given as goal

abbrev pub invariant-loop-direction : goal.invariant-loop-direction
invariant-loop-direction l = l.kept ≡ firsts same_instance (flat_map (possible_of l.table l.layers l.below l.plan) (take l.direction-index l.plan.directions))
