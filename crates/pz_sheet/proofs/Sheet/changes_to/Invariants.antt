use Rattle.pz_sheet.proofs.Common.{◌≡◌, ◌≤◌, ◌++◌, ◌-◌, length, All, changed_cells, changes_seen, IsChangeOf}
use Rattle.pz_sheet.proofs.ChangeLemmas.{left_from}
use Rattle.pz_sheet.proofs.Sheet.changes_to.Given as goal

abbrev pub invariant-changes : goal.invariant-changes
invariant-changes g l = record {
  found : changes_seen l.self.grid l.changes.items ++ left_from l.self.grid l.older.grid l.from ≡ changed_cells l.self.grid l.older.grid;
  of_level : All (IsChangeOf l.self.grid) l.changes.items;
  low : l.from ≤ length l.self.grid.cells;
}

abbrev pub decreases-changes : goal.decreases-changes
decreases-changes g l = length l.self.grid.cells - l.from
