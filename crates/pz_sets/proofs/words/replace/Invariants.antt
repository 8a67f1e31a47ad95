use Rattle.std.proofs.Common.{◌≡◌, ℕ, ◌/◌, ◌<◌, ◌≤◌, false, ◌&&◌, ◌||◌, not}
use Rattle.std.specs.Prelude.{◌↔◌}
use Rattle.pz_sets.specs.Sets.{member}
use Rattle.pz_sets.proofs.words.replace.Given as goal

abbrev pub invariant-loop-index : goal.invariant-loop-index
invariant-loop-index l = record {
  done : (number : ℕ) → number / 128 < l.index → member l.words number ≡ ((member l.initial.words number && not (member l.removed number)) || member l.added number);
  left : (number : ℕ) → l.index ≤ number / 128 → member l.words number ≡ member l.initial.words number;
  changed : (l.changed ≡ false) ↔ ((number : ℕ) → member l.words number ≡ member l.initial.words number);
}
