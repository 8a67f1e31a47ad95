use Rattle.pz_sheet.proofs.Common.{ℕ, ◌≡◌, ◌≤◌, ◌<◌, false, holds_in}
use Rattle.pz_sheet.proofs.Sheet.last_in_line.Given as goal

abbrev pub invariant-places : goal.invariant-places
invariant-places g l = record {
  within : l.at ≤ l.end;
  none : (number : ℕ) → l.at ≤ number → number < l.end → holds_in l.self.grid l.line l.pattern number ≡ false;
}

abbrev pub decreases-places : goal.decreases-places
decreases-places g l = l.at
