use Rattle.std.proofs.Common.{◌≡◌, length}
use Rattle.pz_names.specs.Denotation.{known_at, IsRound}
use Rattle.pz_names.proofs.denotation.round.Given as goal

abbrev pub invariant-loop-number : goal.invariant-loop-number
invariant-loop-number l = record {
  count : length l.known ≡ length l.meanings;
  round : IsRound l.meanings (known_at l.initial.known) (known_at l.known) l.number l.found;
}
