use Rattle.std.proofs.Common.{◌≡◌, ◌++◌, drop, flat_map}
use Rattle.pz_describe.specs.Sections.{layer_tokens}
use Rattle.pz_describe.proofs.sections.put_layer_lines.Given as goal

abbrev pub invariant-loop-line : goal.invariant-loop-line
invariant-loop-line l = l.page ++ flat_map layer_tokens (drop l.line-index l.lines) ≡ l.fn.page ++ flat_map layer_tokens l.lines
