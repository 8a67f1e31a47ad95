use Rattle.std.proofs.Common.{◌≡◌, ◌++◌, drop, flat_map}
use Rattle.pz_describe.specs.Sections.{legend_tokens}
use Rattle.pz_describe.proofs.legend.put_lines.Given as goal

abbrev pub invariant-loop-line : goal.invariant-loop-line
invariant-loop-line l = l.page ++ flat_map (legend_tokens l.reading) (drop l.line-index l.lines) ≡ l.fn.page ++ flat_map (legend_tokens l.reading) l.lines
