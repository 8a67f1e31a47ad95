use Rattle.std.proofs.Common.{◌≡◌, None}
use Rattle.pz_solver.proofs.tell_each.Given as goal

-- no write has failed so far
abbrev pub invariant-loop-number : goal.invariant-loop-number
invariant-loop-number g l = l.output.failure ≡ None
