use Rattle.std.proofs.Common.{ℕ, ◌≡◌, ◌<◌, true}
use Rattle.pz_sets.specs.Sets.{in_word}
use Rattle.pz_planes.specs.Planes.{MayHold}
use Rattle.pz_planes.proofs.planes.LinePlanes.places.Given as goal

abbrev pub invariant-loop-item : goal.invariant-loop-item
invariant-loop-item l = (at : ℕ) → at < 128 → MayHold l.self l.line at l.pattern → in_word l.places at ≡ true
