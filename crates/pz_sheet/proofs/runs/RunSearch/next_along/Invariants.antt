use Rattle.pz_sheet.proofs.Common.{ℕ, ◌≡◌, ◌≤◌, ◌<◌, ◌-◌, false, line_length, run_holds_from}
use Rattle.pz_sheet.proofs.runs.RunSearch.next_along.Given as goal

abbrev pub invariant-starts : goal.invariant-starts
invariant-starts g l = record {
  from : l.from ≤ l.at;
  none : (number : ℕ) → l.from ≤ number → number < l.at → run_holds_from l.self number ≡ false;
}

abbrev pub decreases-starts : goal.decreases-starts
decreases-starts g l = line_length l.self.grid l.self.walk.line.axis - l.at
