use Rattle.pz_sheet.proofs.Common.{◌≡◌, ℕ, list_any, range_with_len, member, stands_in_line}
use Rattle.pz_sheet.proofs.Sheet.line_objects.Given as goal

abbrev pub invariant-loop-at : goal.invariant-loop-at
invariant-loop-at g l = (object : ℕ) → member l.set object ≡ list_any (stands_in_line l.self.grid l.line object) (range_with_len 0 l.at)
