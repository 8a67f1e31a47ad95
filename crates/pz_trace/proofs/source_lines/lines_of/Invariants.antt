use Rattle.std.proofs.Common.{◌≡◌, [], drop, fold}
use Rattle.pz_trace.specs.SourceLines.{with_group}
use Rattle.pz_trace.proofs.source_lines.lines_of.Given as goal

abbrev pub invariant-loop-group : goal.invariant-loop-group
invariant-loop-group l = fold (with_group l.rules) l.lines.items (drop l.group-index l.group-items) ≡ fold (with_group l.rules) [] l.group-items
