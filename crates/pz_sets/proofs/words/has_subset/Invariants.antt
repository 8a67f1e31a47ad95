use Rattle.std.proofs.Common.{◌≡◌, ℕ, ◌/◌, ◌<◌, true}
use Rattle.pz_sets.specs.Sets.{member}
use Rattle.pz_sets.proofs.words.has_subset.Given as goal

abbrev pub invariant-loop-index : goal.invariant-loop-index
invariant-loop-index l = (number : ℕ) → number / 128 < l.index → member l.wanted number ≡ true → member l.words number ≡ true
