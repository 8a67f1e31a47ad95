use Rattle.pz_grid.proofs.Common.{cell_holds, enumerate_from, list_all, take, true, ◌≡◌}
use Rattle.pz_grid.proofs.placing.spread_holds.Given as goal

abbrev pub invariant-loop-index : goal.invariant-loop-index
invariant-loop-index g l = list_all (cell_holds l.sheet.grid l.row l.dir l.place) (take l.index (enumerate_from 0 l.row.cells)) ≡ true
