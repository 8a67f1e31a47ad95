use Rattle.std.proofs.Common.{◌≡◌, drop, fold, map}
use Rattle.pz_trace.specs.SourceLines.{line_of, told_once}
use Rattle.pz_trace.proofs.source_lines.add_group.Given as goal

abbrev pub invariant-loop-instance : goal.invariant-loop-instance
invariant-loop-instance l = fold told_once l.lines.items (map (line_of l.rules) (drop l.instance-index l.instance-items)) ≡ fold told_once l.fn.lines.items (map (line_of l.rules) l.instance-items)
