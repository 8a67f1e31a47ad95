use Rattle.std.proofs.Common.{◌≡◌, ◌+◌, ◌++◌, [], ◌∷◌, List, length, drop, refl, ap, sym, ◌∙◌}
use Rattle.std.proofs.lemmas.List.{append-nil, drop_all}
use Rattle.std.specs.List.{flat_map, enumerate_from}
use Rattle.pz_plan.specs.declared.plan.PlanRow.{PlanRow}
use Rattle.pz_plan.specs.declared.plan.Term.{Term}
use Rattle.pz_plan.specs.Numbering.{choices_in_row, choices_of_row, choices_in_rows, cells_of, rows_of, asked_count}
use Rattle.pz_plan.proofs.Numbered.{rows-more, row_choices-more}
use Rattle.pz_plan.proofs.numbering.number_rows.Goals as goal

pub loop-number-preserved : goal.loop-number-preserved
loop-number-preserved c =
    let rows = c.args.rows.now in
    let i = c.loop-number.number in
    let row = c.index-rows-number.result in
    let out = c.loop-number.out.items in
    let before = c.loop-number.choices.items in
    let after = c.number_cells.new.choices.items in
    let counted : length after ≡ length before + asked_count row.cells = c.in_ok-cells.ensures.count ∙ ap (λ l. length before + asked_count l) c.items.ensures in
    let added : after ≡ before ++ choices_in_row i row.cells = c.in_ok-cells.ensures.choices ∙ ap (λ l. before ++ choices_in_row i l) c.items.ensures in
    let with_cells : List (List Term) → PlanRow Term = λ cells. record { cells = cells; gap_at = row.gap_at } in
    let pushed : c.push.new.self.items ≡ out ++ with_cells (cells_of (length before) row.cells) ∷ [] =
    c.in_ok-push.ensures.items ∙ ap (λ t. out ++ with_cells t ∷ []) (c.in_ok-cells.ensures.cells ∙ ap (cells_of (length before)) c.items.ensures) in
    record {
      terms = ap (λ l. l ++ rows_of (length after) (drop (i + 1) rows)) pushed ∙ rows-more out (length before) (length after) rows i row _ c.loop-number-test.true c.index-rows-number.is counted c.loop-number.invariant.terms;
      choices = ap (λ l. l ++ flat_map choices_of_row (enumerate_from (i + 1) (drop (i + 1) rows))) added ∙ row_choices-more before rows i row _ c.loop-number-test.true c.index-rows-number.is c.loop-number.invariant.choices;
    }

pub loop-number-init : goal.loop-number-init
unfolding choices_in_rows
loop-number-init c = rw c.new-out.ensures.items (record { terms = refl; choices = refl })

pub returns-clause-rows : goal.returns-clause-rows
unfolding rows_of
returns-clause-rows c =
    let out = c.loop-number.out.items in
    let over = drop_all c.loop-number.number c.args.rows.now c.loop-number-test.false in
    c.new.ensures ∙ (sym (append-nil out) ∙ (ap (λ l. out ++ rows_of (length c.loop-number.choices.items) l) (sym over) ∙ c.loop-number.invariant.terms))

pub returns-clause-choices : goal.returns-clause-choices
returns-clause-choices c =
    let before = c.loop-number.choices.items in
    let i = c.loop-number.number in
    let over = drop_all i c.args.rows.now c.loop-number-test.false in
    sym (append-nil before) ∙ (ap (λ l. before ++ flat_map choices_of_row (enumerate_from i l)) (sym over) ∙ c.loop-number.invariant.choices)
