use Rattle.std.proofs.Common.{◌≡◌, ◌++◌, drop, flat_map}
use Rattle.pz_describe.specs.Sections.{prelude_tokens}
use Rattle.pz_describe.proofs.prelude.put_lines.Given as goal

abbrev pub invariant-loop-line : goal.invariant-loop-line
invariant-loop-line l = l.page ++ flat_map prelude_tokens (drop l.line-index l.lines) ≡ l.fn.page ++ flat_map prelude_tokens l.lines
