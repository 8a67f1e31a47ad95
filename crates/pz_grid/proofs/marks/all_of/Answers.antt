use Rattle.pz_grid.proofs.Common.{ap, list_any, list_any_more, member, sym, take, take_all, Bool, List, ℕ, ◌∙◌, ◌||◌}
use Rattle.pz_grid.proofs.marks.all_of.Goals as goal

pub loop-line-preserved : goal.loop-line-preserved
loop-line-preserved c = λ object.
    let marks = c.args.marks.now in
    let at = c.loop-line.line-index in
    let line = c.line-item.result in
    c.union-set.ensures object ∙ ap (λ (b : Bool). b || member line object) (c.loop-line.invariant object)
    ∙ ap (λ (l : List ℕ). list_any (λ set. member set object) (take at marks) || member l object) c.line-item.is
    ∙ sym (list_any_more (λ set. member set object) marks at line c.loop-line-test.true)

pub returns : goal.returns
returns c = λ object. c.loop-line.invariant object ∙ ap (λ (l : List (List ℕ)). list_any (λ set. member set object) l) (take_all c.loop-line.line-index c.args.marks.now c.loop-line-test.false)
