use Rattle.pz_grid.proofs.Common.{MATCH_LIMIT, [], arith, gather_step, gather_too_long, line_count, sym, ◌≡◌}
use Rattle.pz_grid.proofs.FoundLemmas.{found_in, places_all, searched-over, searched-within}
use Rattle.pz_grid.proofs.placing.places_within_limit.Goals as goal

pub returns-in-Err : goal.returns-in-Err
returns-in-Err c =
    let grid = c.args.level.now.grid in
    let row = c.args.row.now in
    let found = found_in grid row c.args.dir in
    let too_long = gather_too_long found c.loop-line.line (line_count grid c.args.dir) MATCH_LIMIT [] c.loop-line.found c.loop-line.invariant (omega arith) (rw c.in-Err.is at c.in_ok-found.ensures) in
    sym (searched-over grid row c.args.dir (rw places_all at too_long))

pub loop-line-preserved : goal.loop-line-preserved
loop-line-preserved c =
    gather_step (found_in c.args.level.now.grid c.args.row.now c.args.dir) c.loop-line.line [] c.loop-line.found c.add_searched.new.found c.loop-line.invariant (rw c.in-Ok.is at c.in_ok-found.ensures)

pub returns : goal.returns
returns c =
    let grid = c.args.level.now.grid in
    let last : c.loop-line.line ≡ line_count grid c.args.dir = omega arith in
    grind (arith, last, searched-within grid c.args.row.now c.args.dir, places_all grid c.args.row.now c.args.dir)

pub returns-then-not-is_searched_for : goal.returns-then-not-is_searched_for
returns-then-not-is_searched_for c =
    grind (arith, searched-within c.args.level.now.grid c.args.row.now c.args.dir, c.is_searched_for.ensures.none c.if-not-is_searched_for.true c.args.dir)
