use Rattle.pz_grid.proofs.Common.{MATCH_LIMIT, arith, dir_of, gather_step, gather_too_long, line_length, place_in}
use Rattle.pz_grid.proofs.HeadLemmas.{begun_with_gap}
use Rattle.pz_grid.proofs.FoundLemmas.{found_with}
use Rattle.pz_grid.proofs.StartLemmas.{found_with_gaps, gaps_passed}
use Rattle.pz_grid.proofs.placing.add_places_with_gaps.Goals as goal

pub gaps-preserved : goal.gaps-preserved
gaps-preserved g c =
    let grid = c.args.sheet.now.grid in
    let row = c.args.row.now in
    let dir = dir_of c.args.walk in
    let line = c.args.walk.line.number in
    let added = gaps_passed grid row dir line c.args.start c.args.at _ _ _ _ _ c.cells.ensures.row c.requires.gap_at (rw c.cells.ensures.cells at c.index-cells-at.is) c.in-Some.ensures.next.0 c.in-Some.ensures.next.3 c.gaps.invariant.added in
    record {
      added = gather_step (found_with grid row dir line c.args.start) c.in-Some.gap c.args.found.now c.gaps.found c.add_place.new.found added (rw (c.place_in-place.ensures, c.dir_of.ensures, c.in-Ok.is) at c.in_ok-found.ensures);
      within = omega (arith, c.in-Some.ensures.next.1);
    }

pub returns : goal.returns
returns g c =
    let grid = c.args.sheet.now.grid in
    let row = c.args.row.now in
    let dir = dir_of c.args.walk in
    let line = c.args.walk.line.number in
    rw (← found_with_gaps grid row dir line c.args.start c.args.at c.requires.gap_at)
    (gaps_passed grid row dir line c.args.start c.args.at _ (line_length grid dir) _ _ _ c.cells.ensures.row c.requires.gap_at (rw c.cells.ensures.cells at c.index-cells-at.is) c.gaps.invariant.within c.in_default.ensures.next c.gaps.invariant.added)

pub add_place-requires : goal.add_place-requires
add_place-requires g c =
    let grid = c.args.sheet.now.grid in
    let row = c.args.row.now in
    let dir = dir_of c.args.walk in
    let line = c.args.walk.line.number in
    let gap = c.in-Some.gap in
    let place = place_in dir line c.args.start gap in
    let begun = begun_with_gap grid row dir place c.args.at c.index-cells-at.result c.cells.ensures.row c.requires.gap_at (rw c.cells.ensures.cells at c.index-cells-at.is) c.requires.starts c.in-Some.ensures.next.2 in
    (omega arith, (c.requires.of_game, rw (c.place_in-place.ensures, c.dir_of.ensures) begun))

pub returns-in-Err : goal.returns-in-Err
returns-in-Err g c =
    let grid = c.args.sheet.now.grid in
    let row = c.args.row.now in
    let dir = dir_of c.args.walk in
    let line = c.args.walk.line.number in
    let added = gaps_passed grid row dir line c.args.start c.args.at _ _ _ _ _ c.cells.ensures.row c.requires.gap_at (rw c.cells.ensures.cells at c.index-cells-at.is) c.in-Some.ensures.next.0 c.in-Some.ensures.next.3 c.gaps.invariant.added in
    let too_long = rw (c.place_in-place.ensures, c.dir_of.ensures, c.in-Err.is) at c.in_ok-found.ensures in
    rw (← found_with_gaps grid row dir line c.args.start c.args.at c.requires.gap_at)
    (gather_too_long (found_with grid row dir line c.args.start) c.in-Some.gap (line_length grid dir) MATCH_LIMIT c.args.found.now c.gaps.found added c.in-Some.ensures.next.1 too_long)
