use Rattle.std.proofs.Common.{◌≡◌, map, take}
use Rattle.pz_rules.specs.PlanInstances.{row_of}
use Rattle.pz_rules.proofs.plan_instances.rows_of.Given as goal

abbrev pub invariant-loop-row : goal.invariant-loop-row
invariant-loop-row l = l.out.items ≡ map (row_of l.directed.layers.now l.directed.direction l.picks) (take l.row-index l.rows)
