use Rattle.pz_sheet.proofs.Common.{ℕ, ◌≡◌, ◌≤◌, ◌<◌, ◌-◌, false, length, differ_in, SameSize}
use Rattle.pz_sheet.proofs.Sheet.take_all.Given as goal

abbrev pub invariant-changes : goal.invariant-changes
invariant-changes g l = record {
  size : SameSize l.self.grid l.other.grid;
  low : l.from ≤ length l.self.grid.cells;
  same : (number : ℕ) → number < l.from → differ_in l.self.grid l.other.grid number ≡ false;
}

abbrev pub decreases-changes : goal.decreases-changes
decreases-changes g l = length l.self.grid.cells - l.from
