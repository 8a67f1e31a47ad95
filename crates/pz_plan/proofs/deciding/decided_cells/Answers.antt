use Rattle.std.proofs.Common.{◌≡◌, ◌+◌, Some, None, drop, refl, ap, sym, ◌∙◌}
use Rattle.pz_plan.specs.Deciding.{both_or_none, decided_terms, decided_cells}
use Rattle.pz_plan.proofs.Joining.{after, after-some, after-nothing, after-all, cells-at}
use Rattle.pz_plan.proofs.deciding.decided_cells.Goals as goal

pub loop-cell-preserved : goal.loop-cell-preserved
loop-cell-preserved c =
    let choices = c.args.choices.now in
    let cells = c.args.cells.now in
    let row = c.args.row in
    let i = c.loop-cell.cell in
    let cell = c.index-cells-cell.result in
    let out = c.loop-cell.out.items in
    let more = decided_cells choices row (i + 1) (drop (i + 1) cells) in
    let decided = decided_terms choices (record { row = row; cell = i }) in
    let one : decided cell ≡ Some c.in-Some.terms = ap decided (sym c.items.ensures) ∙ (sym c.in_ok-terms.ensures ∙ c.in-Some.is) in
    ap (λ l. after l more) c.in_ok-push.ensures.items
    ∙ after-some out c.in-Some.terms (decided cell) more (decided_cells choices row 0 cells) one
    (sym (cells-at choices row out cells i cell c.loop-cell-test.true c.index-cells-cell.is) ∙ c.loop-cell.invariant)

pub loop-cell-init : goal.loop-cell-init
loop-cell-init c = rw c.new-out.ensures.items (after-nothing (decided_cells c.args.choices.now c.args.row 0 c.args.cells.now))

pub returns-in_default : goal.returns-in_default
returns-in_default c =
    let choices = c.args.choices.now in
    let cells = c.args.cells.now in
    let row = c.args.row in
    let i = c.loop-cell.cell in
    let cell = c.index-cells-cell.result in
    let out = c.loop-cell.out.items in
    let decided = decided_terms choices (record { row = row; cell = i }) in
    let one : decided cell ≡ None = ap decided (sym c.items.ensures) ∙ (sym c.in_ok-terms.ensures ∙ c.in_default.is) in
    sym (ap (λ o. after out (both_or_none o (decided_cells choices row (i + 1) (drop (i + 1) cells)))) one)
    ∙ (sym (cells-at choices row out cells i cell c.loop-cell-test.true c.index-cells-cell.is) ∙ c.loop-cell.invariant)

pub returns : goal.returns
unfolding decided_cells
returns c =
    let i = c.loop-cell.cell in
    ap Some c.new.ensures ∙ after-all (decided_cells c.args.choices.now c.args.row i) refl c.loop-cell.out.items c.args.cells.now i _ c.loop-cell-test.false c.loop-cell.invariant
