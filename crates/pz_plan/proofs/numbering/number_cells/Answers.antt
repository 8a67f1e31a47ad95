use Rattle.std.proofs.Common.{◌≡◌, ◌+◌, ◌++◌, [], ◌∷◌, length, drop, refl, ap, sym, ◌∙◌}
use Rattle.std.proofs.lemmas.List.{append-nil, drop_all}
use Rattle.std.specs.List.{flat_map, enumerate_from}
use Rattle.pz_plan.specs.Numbering.{choices_at, choices_of_cell, choices_in_row, cells_of, asked_in, terms_of}
use Rattle.pz_plan.proofs.Numbered.{cells-more, cell_choices-more, asked-more}
use Rattle.pz_plan.proofs.numbering.number_cells.Goals as goal

pub loop-cell-preserved : goal.loop-cell-preserved
loop-cell-preserved c =
    let cells = c.args.cells.now in
    let i = c.loop-cell.cell in
    let cell = c.index-cells-cell.result in
    let before = c.loop-cell.choices.items in
    let after = c.number_terms.new.choices.items in
    let counted : length after ≡ length before + asked_in cell = c.in_ok-number_terms.ensures.count ∙ ap (λ l. length before + asked_in l) c.items.ensures in
    let added : after ≡ before ++ choices_at (record { row = c.args.row; cell = i }) cell = c.in_ok-number_terms.ensures.choices ∙ ap (λ l. before ++ choices_at (record { row = c.args.row; cell = i }) l) c.items.ensures in
    let pushed : c.push.new.self.items ≡ c.loop-cell.out.items ++ terms_of (length before) cell ∷ [] =
    c.in_ok-push.ensures.items ∙ ap (λ t. c.loop-cell.out.items ++ t ∷ []) (c.in_ok-number_terms.ensures.terms ∙ ap (terms_of (length before)) c.items.ensures) in
    record {
      terms = ap (λ l. l ++ cells_of (length after) (drop (i + 1) cells)) pushed ∙ cells-more c.loop-cell.out.items (length before) (length after) cells i cell _ c.loop-cell-test.true c.index-cells-cell.is counted c.loop-cell.invariant.terms;
      choices = ap (λ l. l ++ flat_map (choices_of_cell c.args.row) (enumerate_from (i + 1) (drop (i + 1) cells))) added ∙ cell_choices-more c.args.row before cells i cell _ c.loop-cell-test.true c.index-cells-cell.is c.loop-cell.invariant.choices;
      count = asked-more (length before) (length after) cells i cell _ c.loop-cell-test.true c.index-cells-cell.is counted c.loop-cell.invariant.count;
    }

pub loop-cell-init : goal.loop-cell-init
unfolding choices_in_row
loop-cell-init c = rw c.new-out.ensures.items (record { terms = refl; choices = refl; count = refl })

pub returns-clause-cells : goal.returns-clause-cells
unfolding cells_of
returns-clause-cells c =
    let out = c.loop-cell.out.items in
    let over = drop_all c.loop-cell.cell c.args.cells.now c.loop-cell-test.false in
    c.new.ensures ∙ (sym (append-nil out) ∙ (ap (λ l. out ++ cells_of (length c.loop-cell.choices.items) l) (sym over) ∙ c.loop-cell.invariant.terms))

pub returns-clause-choices : goal.returns-clause-choices
returns-clause-choices c =
    let before = c.loop-cell.choices.items in
    let i = c.loop-cell.cell in
    let over = drop_all i c.args.cells.now c.loop-cell-test.false in
    sym (append-nil before) ∙ (ap (λ l. before ++ flat_map (choices_of_cell c.args.row) (enumerate_from i l)) (sym over) ∙ c.loop-cell.invariant.choices)
