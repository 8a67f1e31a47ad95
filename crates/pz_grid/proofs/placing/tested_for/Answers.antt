use Rattle.pz_grid.proofs.Common.{arith, dir_of, line_length}
use Rattle.pz_grid.proofs.SkipLemmas.{starts_fewer}
use Rattle.pz_grid.proofs.StartLemmas.{counted_in}
use Rattle.pz_grid.proofs.placing.tested_for.Goals as goal

pub returns-clause-low : goal.returns-clause-low
returns-clause-low g c =
    let grid = c.args.sheet.now.grid in
    let row = c.args.row.now in
    let walk = c.args.walk in
    let low = counted_in grid row walk _ (rw c.search_in.ensures at c.tested.ensures.low) in
    omega (arith, low, starts_fewer grid row (dir_of walk) (line_length grid (dir_of walk)) walk.line.number)
