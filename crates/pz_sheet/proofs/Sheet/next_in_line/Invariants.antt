use Rattle.pz_sheet.proofs.Common.{ℕ, ◌≡◌, ◌≤◌, ◌<◌, ◌-◌, false, line_length, holds_in}
use Rattle.pz_sheet.proofs.Sheet.next_in_line.Given as goal

abbrev pub invariant-places : goal.invariant-places
invariant-places g l = record {
  from : l.from ≤ l.at;
  none : (number : ℕ) → l.from ≤ number → number < l.at → holds_in l.self.grid l.line l.pattern number ≡ false;
}

abbrev pub decreases-places : goal.decreases-places
decreases-places g l = line_length l.self.grid l.line.axis - l.at
