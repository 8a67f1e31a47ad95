use Rattle.std.proofs.Common.{◌≡◌, ◌++◌, drop, flat_map}
use Rattle.pz_describe.specs.Sections.{line_tokens}
use Rattle.pz_describe.proofs.lines.put_each.Given as goal

abbrev pub invariant-loop-line : goal.invariant-loop-line
invariant-loop-line l = l.page ++ flat_map line_tokens (drop l.line-index l.lines) ≡ l.fn.page ++ flat_map line_tokens l.lines
