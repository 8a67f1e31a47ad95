use Rattle.std.proofs.Common.{◌≡◌, map, take}
use Rattle.pz_rules.specs.PlanInstances.{options_of}
use Rattle.pz_rules.proofs.plan_instances.all_options.Given as goal

abbrev pub invariant-loop-choice : goal.invariant-loop-choice
invariant-loop-choice l = l.options.items ≡ map (options_of l.table l.direction) (take l.choice-index l.choices)
