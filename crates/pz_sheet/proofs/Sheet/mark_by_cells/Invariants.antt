use Rattle.pz_sheet.proofs.Common.{◌≡◌, ◌<◌, ℕ, [], length, get_or, member, in_line}
use Rattle.pz_sheet.proofs.Sheet.mark_by_cells.Given as goal

abbrev pub invariant-loop-number : goal.invariant-loop-number
invariant-loop-number g l = record {
  count : length l.marks ≡ length l.initial.marks;
  exact : (other object : ℕ) → other < l.number → member (get_or l.marks other []) object ≡ in_line l.self.grid (record { axis = l.axis; number = other }) object;
}
