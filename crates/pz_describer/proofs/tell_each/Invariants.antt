use Rattle.std.proofs.Common.{◌≡◌, None}
use Rattle.pz_describer.proofs.tell_each.Given as goal

abbrev pub invariant-loop-name : goal.invariant-loop-name
invariant-loop-name g l = l.output.failure ≡ None
