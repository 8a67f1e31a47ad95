use Rattle.pz_sheet.proofs.Common.{ℕ, ◌≡◌, ◌≤◌, ◌<◌, false, holds_in}
use Rattle.pz_sheet.proofs.Sheet.last_in_long_line.Given as goal

abbrev pub invariant-cells : goal.invariant-cells
invariant-cells g l = record {
  within : l.at ≤ l.end;
  none : (number : ℕ) → l.at ≤ number → number < l.end → holds_in l.self.grid l.line l.pattern number ≡ false;
}

abbrev pub decreases-cells : goal.decreases-cells
decreases-cells g l = l.at
