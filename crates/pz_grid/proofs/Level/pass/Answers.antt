use Rattle.pz_grid.proofs.Common.{arith, false, fold_gather_more, in_pass, move_at, moves_on, same_size_on, spots_in, sym}
use Rattle.pz_grid.proofs.StillLemmas.{columns_stay, still_on}
use Rattle.pz_grid.proofs.Level.pass.Goals as goal

pub columns-preserved : goal.columns-preserved
columns-preserved c =
    let grid = c.args.self.now.grid in
    let now = c.columns.self.grid in
    let start = in_pass grid false in
    let x = c.in-Some.x in
    let i = c.columns.invariant in
    let found = c.in-Some.ensures.next in
    let before = columns_stay start now c.columns.passed.moved grid.depth grid.height c.columns.from x i.size.height found.0 (sym i.so_far) found.2 in
    let on = still_on now c.pass_in-passed.new.self.grid c.columns.passed.moved c.pass_in-passed.result.moved (spots_in now.depth now.height x) c.pass_in-passed.ensures.pass in
    record {
      within = omega (arith, found.1, i.size.width);
      so_far = grind (arith, before, i.size.depth, i.size.height, fold_gather_more move_at start (spots_in grid.depth grid.height) x);
      left = λ none k low below y top y_in.
          let here = c.pass_in-passed.ensures.left none in
          grind (arith, on k y, here.1 y top y_in, i.left here.0 k low, found.2 k, below, c.pass_in-passed.ensures.size.height, y_in);
      size = same_size_on _ _ _ i.size c.pass_in-passed.ensures.size;
      marks = moves_on _ _ _ i.marks c.pass_in-passed.ensures.marks;
    }

pub returns-clause-pass : goal.returns-clause-pass
returns-clause-pass c =
    let grid = c.args.self.now.grid in
    let i = c.columns.invariant in
    grind (arith, i.size.width, columns_stay (in_pass grid false) c.columns.self.grid c.columns.passed.moved grid.depth grid.height c.columns.from c.columns.self.grid.width i.size.height (omega (arith, i.within, i.size.width)) (sym i.so_far) c.in_default.ensures.next)

pub returns-clause-left : goal.returns-clause-left
returns-clause-left c none x low high = grind (arith, c.columns.invariant.left none x low, c.in_default.ensures.next x, high)
