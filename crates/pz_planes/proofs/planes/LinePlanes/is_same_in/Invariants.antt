use Rattle.std.proofs.Common.{◌≡◌, ℕ, ◌+◌, ◌*◌, ◌<◌}
use Rattle.pz_planes.proofs.DifferingLemmas.{AreSameBelow}
use Rattle.pz_planes.proofs.planes.LinePlanes.is_same_in.Given as goal

abbrev pub invariant-loop-object : goal.invariant-loop-object
invariant-loop-object l = record {
  number : l.number ≡ l.object * l.self.count + l.line;
  same : (at : ℕ) → at < 128 → AreSameBelow l.object l.self l.other l.line at;
}
