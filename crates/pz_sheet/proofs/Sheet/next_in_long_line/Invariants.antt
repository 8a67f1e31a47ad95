use Rattle.pz_sheet.proofs.Common.{ℕ, ◌≡◌, ◌≤◌, ◌<◌, false, holds_in}
use Rattle.pz_sheet.proofs.Sheet.next_in_long_line.Given as goal

abbrev pub invariant-loop-at : goal.invariant-loop-at
invariant-loop-at g l = (number : ℕ) → l.from ≤ number → number < l.at → holds_in l.self.grid l.line l.pattern number ≡ false
