use Rattle.std.proofs.Common.{◌≡◌, ℕ, ◌/◌, ◌<◌, true, false}
use Rattle.pz_sets.specs.Sets.{member}
use Rattle.pz_sets.proofs.words.is_disjoint.Given as goal

abbrev pub invariant-loop-index : goal.invariant-loop-index
invariant-loop-index l = (number : ℕ) → number / 128 < l.index → member l.unwanted number ≡ true → member l.words number ≡ false
