use Rattle.std.proofs.Common.{◌≡◌, ℕ, ◌/◌, ◌<◌}
use Rattle.pz_sets.specs.Sets.{member}
use Rattle.pz_sets.proofs.words.both_same.Given as goal

abbrev pub invariant-loop-index : goal.invariant-loop-index
invariant-loop-index l = record {
  first : (number : ℕ) → number / 128 < l.index → member l.words number ≡ member l.others number;
  second : (number : ℕ) → number / 128 < l.index → member l.second number ≡ member l.second_others number;
}
