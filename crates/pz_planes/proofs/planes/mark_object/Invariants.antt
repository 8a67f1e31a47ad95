use Rattle.std.proofs.Common.{◌≡◌, ℕ, ◌+◌, [], ◌&&◌, not, ◌||◌, nat_eq, length, get_or}
use Rattle.std.specs.Prelude.{nat_lt}
use Rattle.pz_sets.specs.Sets.{member}
use Rattle.pz_planes.proofs.planes.mark_object.Given as goal

abbrev pub invariant-loop-line : goal.invariant-loop-line
invariant-loop-line l = record {
  count : length l.marks ≡ length l.initial.marks;
  marked : (line other : ℕ) → member (get_or l.marks line []) other ≡ ((nat_lt line l.line && (nat_eq other l.object && not (nat_eq (get_or l.words (l.start + line) 0) 0))) || member (get_or l.initial.marks line []) other);
}
