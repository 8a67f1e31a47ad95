use Rattle.pz_level_text.proofs.Common.{◌≡◌, take, texts_in}
use Rattle.pz_level_text.proofs.cell_labels.CellLabels.look_at_all.Given as goal

abbrev pub invariant-loop-number : goal.invariant-loop-number
invariant-loop-number l = record {
  cells : l.self.cells ≡ take l.number (texts_in l.fn.self.table.game l.fn.self.order l.level.grid);
  game : l.self.table.game ≡ l.fn.self.table.game;
  order : l.self.order ≡ l.fn.self.order;
}
