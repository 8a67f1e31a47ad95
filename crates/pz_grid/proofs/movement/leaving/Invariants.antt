use Rattle.pz_grid.proofs.Common.{AllStay, ◌-◌, ◌≤◌}
use Rattle.pz_grid.proofs.movement.leaving.Given as goal

abbrev pub invariant-layers : goal.invariant-layers
invariant-layers g l = record { order : l.from ≤ l.start; stay : AllStay l.sheet.grid l.x l.y l.from l.start }

abbrev pub decreases-layers : goal.decreases-layers
decreases-layers g l = l.sheet.grid.depth - l.start
