use Rattle.std.proofs.Common.{◌≡◌, ◌++◌, drop, flat_map}
use Rattle.pz_trace.specs.SourceLines.{line_of}
use Rattle.pz_describe.specs.Values.{numeral}
use Rattle.pz_describe.proofs.program.put_instances.Given as goal

abbrev pub invariant-loop-instance : goal.invariant-loop-instance
invariant-loop-instance l = l.page ++ flat_map (λ instance. numeral (line_of l.rules instance)) (drop l.instance-index l.instances) ≡ l.fn.page ++ flat_map (λ instance. numeral (line_of l.rules instance)) l.instances
