use Rattle.std.proofs.Common.{◌≡◌, length}
use Rattle.pz_names.specs.Denotation.{known_at, value_at, IsBelow}
use Rattle.pz_names.proofs.denotation.fill.Given as goal

abbrev pub invariant-loop-rank : goal.invariant-loop-rank
invariant-loop-rank l = record {
  count : length l.known ≡ length l.meanings;
  low : IsBelow (known_at l.known) (value_at (length l.meanings) l.meanings);
  high : IsBelow (value_at l._rank l.meanings) (known_at l.known);
}
