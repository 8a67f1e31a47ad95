use Rattle.std.proofs.Common.{◌≡◌}
use Rattle.pz_crew.proofs.work.send.Given as goal

abbrev pub invariant-loop : goal.invariant-loop
invariant-loop g l = (l.sender ≡ l.initial.sender) × (l.message ≡ l.initial.message)
