use Rattle.pz_sheet.proofs.Common.{◌*◌, ◌-◌, ◌≤◌, length}
use Rattle.pz_cells.specs.Lists.{IsStilled}
use Rattle.pz_cells.proofs.ListLemmas.{AreWalked}
use Rattle.pz_sheet.proofs.movement.still_rows.Given as goal

abbrev pub decreases-rows : goal.decreases-rows
decreases-rows g l = length l.notes.rows - l.from

abbrev pub invariant-rows : goal.invariant-rows
invariant-rows g l = record {
  within : l.from ≤ length l.notes.rows;
  walked : AreWalked (IsStilled l.layers) l.initial.cells.items l.cells.items (l.from * l.fn.width);
}
