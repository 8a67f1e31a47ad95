use Rattle.pz_level_text.proofs.Common.{◌≡◌, ◌*◌, ◌-◌, length, IfSome}
use Rattle.pz_level_text.specs.LastText.{IsLastOf}
use Rattle.pz_sheet.specs.Changes.{TellsOf, differ_in}
use Rattle.pz_level_text.proofs.Changing.{IsSeenTo}
use Rattle.pz_level_text.proofs.cell_labels.CellLabels.look_at_changes.Given as goal

abbrev pub invariant-changes : goal.invariant-changes
invariant-changes l = record {
  seen : IsSeenTo l.fn.self.table.game l.fn.self.order l.seen.grid l.level.grid l.from l.self.cells;
  last : IfSome l.last (IsLastOf l.self.cells l.self.table.texts l.room);
  game : l.self.table.game ≡ l.fn.self.table.game;
  order : l.self.order ≡ l.fn.self.order;
  known : TellsOf (differ_in l.seen.grid l.level.grid) (length l.seen.grid.cells) l.known;
}

abbrev pub decreases-changes : goal.decreases-changes
decreases-changes l = l.level.grid.width * l.level.grid.height - l.from
