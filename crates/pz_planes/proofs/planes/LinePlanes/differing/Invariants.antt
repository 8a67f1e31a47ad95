use Rattle.std.proofs.Common.{ℕ, ◌≡◌, ◌<◌, false}
use Rattle.std.specs.Prelude.{◌↔◌}
use Rattle.pz_sets.specs.Sets.{in_word}
use Rattle.pz_planes.proofs.DifferingLemmas.{AreSameBelow}
use Rattle.pz_planes.proofs.planes.LinePlanes.differing.Given as goal

abbrev pub invariant-loop-object : goal.invariant-loop-object
invariant-loop-object l = (at : ℕ) → at < 128 → (in_word l.places at ≡ false) ↔ AreSameBelow l.object l.self l.other l.line at
