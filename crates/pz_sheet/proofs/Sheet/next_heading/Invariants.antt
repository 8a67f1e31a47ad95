use Rattle.pz_sheet.proofs.Common.{◌-◌, ◌≤◌}
use Rattle.pz_sheet.specs.Movement.{AreStill}
use Rattle.pz_sheet.proofs.Sheet.next_heading.Given as goal

abbrev pub decreases-rows : goal.decreases-rows
decreases-rows g l = l.self.grid.height - l.start

abbrev pub invariant-rows : goal.invariant-rows
invariant-rows g l = record {
  order : l.from ≤ l.start;
  still : AreStill l.self.grid l.x l.from l.start;
}
