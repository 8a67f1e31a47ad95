use Rattle.std.proofs.Common.{◌≡◌}
use Rattle.pz_claims.proofs.tests.claim_all.Given as goal

abbrev pub invariant-loop : goal.invariant-loop
invariant-loop g l = l.seat.of ≡ l.claims
