use Rattle.pz_grid.proofs.Common.{arith, enumerate_from, length-enumerate_from, length-zip, take_all, zip, in_rewrite, list_any, list_any_at, names_object, rewritten_along, same_size_on, widened_on}
use Rattle.pz_grid.proofs.FoldLemmas.{fold_numbered_more}
use Rattle.pz_grid.proofs.Level.rewrite_row.Goals as goal

pub loop-index-preserved : goal.loop-index-preserved
loop-index-preserved c =
    let start = in_rewrite c.args.self.now.grid c.args.changed_before in
    let i = c.loop-index.index in
    let left = c.index-left-index.result in
    let right = c.index-right-index.result in
    let rights = c.cells-right.result.now in
    let more = fold_numbered_more (rewritten_along c.args.dir c.gap_at-gap_at.result c.args.place) start c.cells-left.result.now rights i left right (omega arith) (omega arith) c.index-left-index.is c.index-right-index.is in
    record {
      so_far = grind (arith, more, c.rewrite_at-changed.ensures.rewritten, c.position_of-at.ensures.position);
      size = same_size_on _ _ _ c.loop-index.invariant.size c.rewrite_at-changed.ensures.size;
      marks = widened_on _ _ _ (λ object. list_any (names_object object) rights) (λ object. names_object object right) (λ object e. list_any_at (names_object object) rights i right (omega arith) (grind (arith, e))) c.loop-index.invariant.marks c.rewrite_at-changed.ensures.marks;
    }

pub returns-clause-rewritten : goal.returns-clause-rewritten
returns-clause-rewritten c =
    let pairs = zip c.cells-left.result.now c.cells-right.result.now in
    grind (arith, take_all c.loop-index.index (enumerate_from 0 pairs), length-enumerate_from 0 pairs, length-zip c.cells-left.result.now c.cells-right.result.now, c.loop-index.invariant.so_far)
