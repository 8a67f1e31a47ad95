use Rattle.pz_sheet.proofs.Common.{ℕ, ◌≡◌, ◌≤◌, ◌<◌, false, run_holds_from}
use Rattle.pz_sheet.proofs.runs.RunSearch.next_in_long_line.Given as goal

abbrev pub invariant-loop-at : goal.invariant-loop-at
invariant-loop-at g l = (number : ℕ) → l.from ≤ number → number < l.at → run_holds_from l.self number ≡ false
