use Rattle.pz_grid.proofs.Common.{admits_line, arith, count_no, count_yes}
use Rattle.pz_grid.proofs.placing.admitted.Goals as goal

pub loop-line-preserved : goal.loop-line-preserved
loop-line-preserved c =
    let p = admits_line c.args.level.now c.args.row.now c.args.dir in
    grind (arith, count_yes p c.loop-line.line, count_no p c.loop-line.line)
