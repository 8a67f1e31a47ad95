use Rattle.pz_grid.proofs.Common.{list_all, marks_item, take, true, ◌≡◌}
use Rattle.pz_grid.proofs.admitting.marks_cell.Given as goal

abbrev pub invariant-loop-item : goal.invariant-loop-item
invariant-loop-item l = list_all (marks_item l.marks) (take l.item-index l.cell) ≡ true
