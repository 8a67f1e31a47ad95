use Rattle.std.proofs.Common.{◌≡◌, map, take}
use Rattle.pz_rules.specs.PlanInstances.{item_of}
use Rattle.pz_rules.proofs.plan_instances.add_items.Given as goal

abbrev pub invariant-loop-term : goal.invariant-loop-term
invariant-loop-term l = l.items.items ≡ map (item_of l.directed.layers.now l.directed.direction l.picks) (take l.term-index l.terms)
