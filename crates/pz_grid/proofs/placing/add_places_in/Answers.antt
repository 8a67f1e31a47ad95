use Rattle.pz_grid.proofs.Common.{Dir, Grid, List, MATCH_LIMIT, None, Place, RuleRow, Some, arith, dir_of, false, gather, gather_skip, gather_step, gather_too_long, head_of, line_length, starts_with, ℕ, ◌++◌, ◌<◌, ◌≡◌, ◌≤◌}
use Rattle.pz_grid.proofs.FoundLemmas.{found_at, found_in_all}
use Rattle.pz_grid.proofs.StartLemmas.{next_in, none_at}
use Rattle.pz_grid.proofs.placing.add_places_in.Goals as goal

-- the starts that are passed over add nothing
passed_over : (grid : Grid) (row : RuleRow) (dir : Dir) (line from to : ℕ) (before items : List Place) → items ≡ before ++ gather (found_at grid row dir line) from → from ≤ to
    → ((start : ℕ) → from ≤ start → start < to → starts_with grid dir line (head_of row) start ≡ false) → items ≡ before ++ gather (found_at grid row dir line) to
passed_over grid row dir line from to before items added low none =
    rw (gather_skip (found_at grid row dir line) from to low (λ start least below. none_at grid row dir line start (none start least below))) added

pub starts-preserved : goal.starts-preserved
starts-preserved g c =
    let grid = c.args.sheet.now.grid in
    let row = c.args.row.now in
    let dir = dir_of c.args.walk in
    let line = c.args.walk.line.number in
    let next = next_in grid row c.args.walk c.starts.from (Some c.in-Some.start) (rw c.search_in-search.ensures at c.in-Some.ensures) in
    let added = passed_over grid row dir line _ _ _ _ c.starts.invariant.added next.0 next.3 in
    record {
      added = gather_step (found_at grid row dir line) c.in-Some.start c.args.found.now c.starts.found c.add_places_at.new.found added (rw c.in-Ok.is at c.in_ok-found.ensures);
      within = omega (arith, next.1);
    }

pub returns : goal.returns
returns g c =
    let grid = c.args.sheet.now.grid in
    let row = c.args.row.now in
    let dir = dir_of c.args.walk in
    let line = c.args.walk.line.number in
    let none = next_in grid row c.args.walk c.starts.from None (rw c.search_in-search.ensures at c.in_default.ensures) in
    rw (← found_in_all grid row dir line) (passed_over grid row dir line _ _ _ _ c.starts.invariant.added c.starts.invariant.within none)

pub returns-in-Err : goal.returns-in-Err
returns-in-Err g c =
    let grid = c.args.sheet.now.grid in
    let row = c.args.row.now in
    let dir = dir_of c.args.walk in
    let line = c.args.walk.line.number in
    let next = next_in grid row c.args.walk c.starts.from (Some c.in-Some.start) (rw c.search_in-search.ensures at c.in-Some.ensures) in
    let added = passed_over grid row dir line _ _ _ _ c.starts.invariant.added next.0 next.3 in
    let too_long = rw c.in-Err.is at c.in_ok-found.ensures in
    rw (← found_in_all grid row dir line) (gather_too_long (found_at grid row dir line) c.in-Some.start (line_length grid dir) MATCH_LIMIT c.args.found.now c.starts.found added next.1 too_long)
