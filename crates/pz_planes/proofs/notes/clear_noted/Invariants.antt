use Rattle.std.proofs.Common.{ℕ, ◌≡◌, ◌≤◌, ◌<◌, ◌-◌, [], false, length, get_or}
use Rattle.pz_sets.specs.Sets.{member}
use Rattle.pz_planes.proofs.notes.clear_noted.Given as goal

abbrev pub decreases-lines : goal.decreases-lines
decreases-lines l = length l.initial.sets - l.from

abbrev pub invariant-lines : goal.invariant-lines
invariant-lines l = record {
  count : length l.sets ≡ length l.initial.sets;
  before : (line number : ℕ) → line < l.from → member (get_or l.sets line []) number ≡ false;
  behind : (line : ℕ) → l.from ≤ line → get_or l.sets line [] ≡ get_or l.initial.sets line [];
}
