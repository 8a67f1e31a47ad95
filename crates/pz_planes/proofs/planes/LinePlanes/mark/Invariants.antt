use Rattle.std.proofs.Common.{◌≡◌, ℕ, ◌+◌, ◌*◌, ◌^◌, ◌<◌, [], ◌&&◌, not, nat_eq, length, get_or}
use Rattle.std.specs.Prelude.{nat_lt}
use Rattle.pz_sets.specs.Sets.{member}
use Rattle.pz_planes.proofs.planes.LinePlanes.mark.Given as goal

abbrev pub invariant-loop-object : goal.invariant-loop-object
invariant-loop-object l = record {
  count : length l.marks ≡ length l.initial.marks;
  marked : (line other : ℕ) → line < l.self.count → member (get_or l.marks line []) other ≡ (nat_lt other l.object && not (nat_eq (get_or l.self.words (other * l.self.count + line) 0) 0));
  fits : (index : ℕ) → get_or l.self.words index 0 < 2 ^ 128;
}
