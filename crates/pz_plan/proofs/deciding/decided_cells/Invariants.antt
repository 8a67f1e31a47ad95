use Rattle.std.proofs.Common.{◌≡◌, drop}
use Rattle.pz_plan.specs.Deciding.{decided_cells}
use Rattle.pz_plan.proofs.Joining.{after}
use Rattle.pz_plan.proofs.deciding.decided_cells.Given as goal

abbrev pub invariant-loop-cell : goal.invariant-loop-cell
invariant-loop-cell l = after l.out.items (decided_cells l.choices l.row l.cell (drop l.cell l.cells)) ≡ decided_cells l.choices l.row 0 l.cells
