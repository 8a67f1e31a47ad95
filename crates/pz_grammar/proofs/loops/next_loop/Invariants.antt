use Rattle.std.proofs.Common.{◌≡◌, drop}
use Rattle.pz_grammar.specs.Loop.{next_loop}
use Rattle.pz_grammar.proofs.loops.next_loop.Given as goal

abbrev pub invariant-loop-line : goal.invariant-loop-line
invariant-loop-line l = next_loop (drop l.line-index l.lines) ≡ next_loop l.lines
