use Rattle.pz_grid.proofs.Common.{Place, arith, get_or_default, in_rewrite, length-zip, list_any_at, places_object, rewritten_row, row_places, same_size_on, sym, take_all, widened_on, zip}
use Rattle.pz_grid.proofs.FoldLemmas.{zip_at, fold_zip_more}
use Rattle.pz_grid.proofs.Level.rewrite_all.Goals as goal

pub loop-index-preserved : goal.loop-index-preserved
loop-index-preserved c =
    let start = in_rewrite c.args.self.now.grid c.args.changed_before in
    let i = c.loop-index.index in
    let places = c.args.places.now in
    let lefts = c.items-left.result.now in
    let rights = c.items-right.result.now in
    let left = c.index-left-index.result in
    let right = c.index-right-index.result in
    let none : Place = record { x = 0; y = 0; gap = 0 } in
    let at_pair = zip_at lefts rights i left right (omega arith) (omega arith) c.index-left-index.is c.index-right-index.is in
    let more = fold_zip_more (rewritten_row c.args.instance.now.scan) start places (zip lefts rights) i _ (left, right) (omega arith) (omega (arith, length-zip lefts rights)) (get_or_default places i none _ (omega arith)) (sym at_pair) in
    record {
      so_far = grind (arith, more, c.rewrite_row-changed.ensures.rewritten);
      size = same_size_on _ _ _ c.loop-index.invariant.size c.rewrite_row-changed.ensures.size;
      marks = widened_on _ _ _ (places_object rights) (λ object. row_places object right) (λ object e. list_any_at (row_places object) rights i right (omega arith) (grind (arith, e))) c.loop-index.invariant.marks c.rewrite_row-changed.ensures.marks;
    }

pub returns-clause-rewritten : goal.returns-clause-rewritten
returns-clause-rewritten c =
    let lefts = c.items-left.result.now in
    let rights = c.items-right.result.now in
    let places = c.args.places.now in
    grind (arith, take_all c.loop-index.index (zip places (zip lefts rights)), length-zip places (zip lefts rights), length-zip lefts rights, c.loop-index.invariant.so_far)
