use Rattle.std.proofs.Common.{ℕ, ◌≡◌, ◌<◌, [], false, length, get_or}
use Rattle.pz_sets.specs.Sets.{member}
use Rattle.pz_planes.proofs.notes.clear.Given as goal

abbrev pub invariant-loop-line : goal.invariant-loop-line
invariant-loop-line l = record {
  count : length l.sets ≡ length l.initial.sets;
  none : (line number : ℕ) → line < l.line → member (get_or l.sets line []) number ≡ false;
}
