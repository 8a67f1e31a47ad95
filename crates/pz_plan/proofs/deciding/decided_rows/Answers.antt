use Rattle.std.proofs.Common.{◌≡◌, ◌+◌, Some, None, drop, refl, ap, sym, ◌∙◌}
use Rattle.pz_plan.specs.Deciding.{both_or_none, decided_row, decided_rows}
use Rattle.pz_plan.proofs.Joining.{after, after-some, after-nothing, after-all, rows-at}
use Rattle.pz_plan.proofs.deciding.decided_rows.Goals as goal

pub loop-number-preserved : goal.loop-number-preserved
loop-number-preserved c =
    let choices = c.args.choices.now in
    let rows = c.args.rows.now in
    let i = c.loop-number.number in
    let row = c.index-rows-number.result in
    let out = c.loop-number.out.items in
    let more = decided_rows choices (i + 1) (drop (i + 1) rows) in
    let one : decided_row choices i row ≡ Some c.in-Some.terms = sym c.in_ok-terms.ensures ∙ c.in-Some.is in
    ap (λ l. after l more) c.in_ok-push.ensures.items
    ∙ after-some out c.in-Some.terms (decided_row choices i row) more (decided_rows choices 0 rows) one
    (sym (rows-at choices out rows i row c.loop-number-test.true c.index-rows-number.is) ∙ c.loop-number.invariant)

pub loop-number-init : goal.loop-number-init
loop-number-init c = rw c.new-out.ensures.items (after-nothing (decided_rows c.args.choices.now 0 c.args.rows.now))

pub returns-in_default : goal.returns-in_default
returns-in_default c =
    let choices = c.args.choices.now in
    let rows = c.args.rows.now in
    let i = c.loop-number.number in
    let row = c.index-rows-number.result in
    let out = c.loop-number.out.items in
    let one : decided_row choices i row ≡ None = sym c.in_ok-terms.ensures ∙ c.in_default.is in
    sym (ap (λ o. after out (both_or_none o (decided_rows choices (i + 1) (drop (i + 1) rows)))) one)
    ∙ (sym (rows-at choices out rows i row c.loop-number-test.true c.index-rows-number.is) ∙ c.loop-number.invariant)

pub returns : goal.returns
unfolding decided_rows
returns c =
    let i = c.loop-number.number in
    ap Some c.new.ensures ∙ after-all (decided_rows c.args.choices.now i) refl c.loop-number.out.items c.args.rows.now i _ c.loop-number-test.false c.loop-number.invariant
