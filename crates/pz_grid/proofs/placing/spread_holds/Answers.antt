use Rattle.pz_grid.proofs.Common.{arith, cell_holds, enumerate_all, enumerate_fails, enumerate_more, sym}
use Rattle.pz_grid.proofs.placing.spread_holds.Goals as goal

pub returns-then-not-holds_along : goal.returns-then-not-holds_along
returns-then-not-holds_along g c =
    sym (enumerate_fails (cell_holds c.args.sheet.now.grid c.args.row.now c.args.dir c.args.place) c.args.row.now.cells c.loop-index.index c.index-cells-index.result (grind arith) (grind (arith, c.index-cells-index.is)) (grind arith))

pub loop-index-preserved : goal.loop-index-preserved
loop-index-preserved g c =
    enumerate_more (cell_holds c.args.sheet.now.grid c.args.row.now c.args.dir c.args.place) c.args.row.now.cells c.loop-index.index c.index-cells-index.result (grind arith) (grind (arith, c.index-cells-index.is)) c.loop-index.invariant (grind arith)

pub returns : goal.returns
returns g c = sym (enumerate_all (cell_holds c.args.sheet.now.grid c.args.row.now c.args.dir c.args.place) c.args.row.now.cells c.loop-index.index (grind arith) c.loop-index.invariant)
