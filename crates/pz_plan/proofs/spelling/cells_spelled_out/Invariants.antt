use Rattle.std.proofs.Common.{◌≡◌, ◌++◌, drop}
use Rattle.std.specs.List.{flat_map}
use Rattle.pz_plan.specs.Spelling.{cell_of}
use Rattle.pz_plan.proofs.spelling.cells_spelled_out.Given as goal

abbrev pub invariant-loop-cell : goal.invariant-loop-cell
invariant-loop-cell l = l.out.items ++ flat_map (cell_of l.side l.table) (drop l.cell-index l.row) ≡ flat_map (cell_of l.side l.table) l.row
