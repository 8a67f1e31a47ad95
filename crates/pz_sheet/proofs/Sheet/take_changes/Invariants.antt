use Rattle.pz_sheet.proofs.Common.{◌≡◌, drop, length, changes_seen, with_cells_back, SameSize}
use Rattle.pz_sheet.proofs.Sheet.take_changes.Given as goal

abbrev pub invariant-loop-change : goal.invariant-loop-change
invariant-loop-change g l = record {
  level : with_cells_back (changes_seen l.initial.self.grid (drop l.change-index l.changes)) l.self.grid ≡ with_cells_back (changes_seen l.initial.self.grid l.changes) l.initial.self.grid;
  size : SameSize l.initial.self.grid l.self.grid;
  long : length l.self.grid.cells ≡ length l.initial.self.grid.cells;
}
