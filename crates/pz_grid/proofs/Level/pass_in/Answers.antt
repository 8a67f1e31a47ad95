use Rattle.pz_grid.proofs.Common.{arith, fold_gather_more, in_pass, move_at, moves_on, same_size_on, spots_at, sym}
use Rattle.pz_grid.proofs.StillLemmas.{rows_stay, still_on}
use Rattle.pz_grid.proofs.Level.pass_in.Goals as goal

pub rows-preserved : goal.rows-preserved
rows-preserved c =
    let grid = c.args.self.now.grid in
    let now = c.rows.self.grid in
    let start = in_pass grid c.args.before.moved in
    let i = c.rows.invariant in
    let found = c.in-Some.ensures.next in
    let before = rows_stay start now c.rows.passed.moved c.args.x grid.depth c.rows.from c.in-Some.y found.0 (sym i.so_far) found.2 in
    let on = still_on now c.pass_over-passed.new.self.grid c.rows.passed.moved c.pass_over-passed.result.moved (spots_at now.depth c.args.x c.in-Some.y) c.pass_over-passed.ensures.pass c.args.x in
    record {
      within = omega (arith, found.1, i.size.height);
      so_far = grind (arith, before, i.size.depth, fold_gather_more move_at start (spots_at grid.depth c.args.x) c.in-Some.y);
      left = λ none.
          let here = c.pass_over-passed.ensures.left none in
          let front = i.left here.0 in
          (front.0, λ y low high. grind (arith, front.1 y low, found.2 y, on y, here.1, high));
      size = same_size_on _ _ _ i.size c.pass_over-passed.ensures.size;
      marks = moves_on _ _ _ i.marks c.pass_over-passed.ensures.marks;
    }

pub returns-clause-pass : goal.returns-clause-pass
returns-clause-pass c =
    let grid = c.args.self.now.grid in
    let i = c.rows.invariant in
    grind (arith, i.size.height, rows_stay (in_pass grid c.args.before.moved) c.rows.self.grid c.rows.passed.moved c.args.x grid.depth c.rows.from c.rows.self.grid.height (omega (arith, i.within, i.size.height)) (sym i.so_far) c.in_default.ensures.next)

pub returns-clause-left : goal.returns-clause-left
returns-clause-left c none =
    let front = c.rows.invariant.left none in
    (front.0, λ y low high. grind (arith, front.1 y low, c.in_default.ensures.next y, low, high))
