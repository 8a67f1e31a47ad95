use Rattle.pz_sheet.proofs.Common.{◌≡◌, drop, length, SameSize}
use Rattle.pz_sheet.proofs.NewerLemmas.{taken}
use Rattle.pz_sheet.proofs.Sheet.go_on.Given as goal

abbrev pub invariant-loop-change : goal.invariant-loop-change
invariant-loop-change g l = record {
  level : taken g.row.N l.newer.grid (drop l.change-index l.change-items) l.self.grid ≡ l.newer.grid;
  size : SameSize l.self.grid l.newer.grid;
  long : length l.self.grid.cells ≡ length l.newer.grid.cells;
}
