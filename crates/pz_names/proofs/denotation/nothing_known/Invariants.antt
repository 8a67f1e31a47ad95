use Rattle.std.proofs.Common.{◌≡◌, ℕ, length}
use Rattle.std.specs.Prelude.{None}
use Rattle.pz_names.specs.Denotation.{known_at}
use Rattle.pz_names.proofs.denotation.nothing_known.Given as goal

abbrev pub invariant-loop-number : goal.invariant-loop-number
invariant-loop-number l = record {
  count : length l.known.items ≡ l._number;
  empty : (k : ℕ) → known_at l.known.items k ≡ None;
}
