use Rattle.pz_grid.proofs.Common.{IsMore, names_object, take, ◌≡◌}
use Rattle.pz_grid.proofs.Level.mark_placed.Given as goal

abbrev pub invariant-loop-item : goal.invariant-loop-item
invariant-loop-item l = record {
  grid : l.self.grid ≡ l.initial.self.grid;
  rows : IsMore l.initial.self.row_marks l.self.row_marks l.y (λ object. names_object object (take l.item-index l.right));
  columns : IsMore l.initial.self.column_marks l.self.column_marks l.x (λ object. names_object object (take l.item-index l.right));
}
