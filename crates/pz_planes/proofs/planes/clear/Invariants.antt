use Rattle.std.proofs.Common.{ℕ, ◌≡◌, ◌/◌, ◌<◌, false, length}
use Rattle.pz_sets.specs.Sets.{member}
use Rattle.pz_planes.proofs.planes.clear.Given as goal

abbrev pub invariant-loop-index : goal.invariant-loop-index
invariant-loop-index l = record {
  count : length l.words ≡ length l.initial.words;
  none : (number : ℕ) → number / 128 < l.index → member l.words number ≡ false;
}
