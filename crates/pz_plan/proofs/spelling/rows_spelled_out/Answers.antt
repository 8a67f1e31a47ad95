use Rattle.std.proofs.Common.{◌++◌, [], ◌∷◌, map, take, refl, ap, sym, ◌∙◌}
use Rattle.std.proofs.lemmas.List.{map-append, take_all}
use Rattle.pz_base.proofs.ListLemmas.{take-next}
use Rattle.pz_plan.specs.Spelling.{row_spelled_out, rows_spelled_out}
use Rattle.pz_plan.proofs.spelling.rows_spelled_out.Goals as goal

pub loop-row-init : goal.loop-row-init
loop-row-init c = rw c.new-out.ensures.items refl

pub loop-row-preserved : goal.loop-row-preserved
loop-row-preserved c =
    let said = row_spelled_out c.args.side c.args.table.now in
    let rows = c.args.rows.now in
    let i = c.loop-row.row-index in
    let row = c.row-item.result in
    let out = c.loop-row.out.items in
    c.in_ok-push.ensures.items
    ∙ (ap (λ r. out ++ r ∷ []) (c.in_ok-row_spelled_out.ensures ∙ ap said c.items.ensures)
    ∙ (ap (λ l. l ++ said row ∷ []) c.loop-row.invariant
    ∙ (sym (map-append said (take i rows) (row ∷ [])) ∙ ap (map said) (sym (take-next rows i row c.loop-row-test.true c.row-item.is)))))

pub returns : goal.returns
unfolding rows_spelled_out
returns c =
    let said = row_spelled_out c.args.side c.args.table.now in
    c.new.ensures ∙ (c.loop-row.invariant ∙ ap (map said) (take_all c.loop-row.row-index c.args.rows.now c.loop-row-test.false))
