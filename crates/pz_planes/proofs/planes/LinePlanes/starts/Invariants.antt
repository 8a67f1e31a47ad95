use Rattle.std.proofs.Common.{ℕ, ◌≡◌, ◌<◌, true}
use Rattle.pz_sets.specs.Sets.{in_word}
use Rattle.pz_planes.specs.Planes.{MayRun}
use Rattle.pz_planes.proofs.planes.LinePlanes.starts.Given as goal

abbrev pub invariant-loop-index : goal.invariant-loop-index
invariant-loop-index l = (at : ℕ) → at < 128 → MayRun l.self l.line l.way l.patterns at → in_word l.starts at ≡ true
