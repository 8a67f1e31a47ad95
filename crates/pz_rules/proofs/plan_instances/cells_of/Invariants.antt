use Rattle.std.proofs.Common.{◌≡◌, map, take}
use Rattle.pz_rules.specs.PlanInstances.{cell_of}
use Rattle.pz_rules.proofs.plan_instances.cells_of.Given as goal

abbrev pub invariant-loop-terms : goal.invariant-loop-terms
invariant-loop-terms l = l.out.items ≡ map (cell_of l.directed.layers.now l.directed.direction l.picks) (take l.terms-index l.cells)
