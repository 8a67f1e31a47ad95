use Rattle.std.proofs.Common.{◌≡◌, ◌++◌, drop}
use Rattle.pz_source.specs.Layers.{layer_lines}
use Rattle.pz_source.proofs.layers.layer_lines.Given as goal

abbrev pub invariant-loop-line : goal.invariant-loop-line
invariant-loop-line l = l.layers.items ++ layer_lines (drop l.line-index l.lines) ≡ layer_lines l.lines
