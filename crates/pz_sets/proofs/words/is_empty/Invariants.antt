use Rattle.std.proofs.Common.{◌≡◌, ℕ, ◌/◌, ◌<◌, false}
use Rattle.pz_sets.specs.Sets.{member}
use Rattle.pz_sets.proofs.words.is_empty.Given as goal

abbrev pub invariant-loop-index : goal.invariant-loop-index
invariant-loop-index l = (number : ℕ) → number / 128 < l.index → member l.words number ≡ false
