use Rattle.std.proofs.Common.{◌≡◌, map, take}
use Rattle.pz_plan.specs.Spelling.{row_spelled_out}
use Rattle.pz_plan.proofs.spelling.rows_spelled_out.Given as goal

abbrev pub invariant-loop-row : goal.invariant-loop-row
invariant-loop-row l = l.out.items ≡ map (row_spelled_out l.side l.table) (take l.row-index l.rows)
