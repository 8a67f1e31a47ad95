use Rattle.std.proofs.Common.{◌≡◌, ℕ, ◌<◌, ◌-◌, ◌∙◌, ap, sym, arith, length, List, min, take, drop}
use Rattle.std.proofs.lemmas.Result.{IfOk-weaker}
use Rattle.pz_record.specs.declared.input.Input.{Input}
use Rattle.pz_steps.specs.Steps.{Taken, stands_behind, start_steps, steps_from}
unfoldable use Rattle.pz_steps.specs.Steps.{steps_at}
use Rattle.pz_steps.proofs.Numbered.{at_input, at_start}
use Rattle.pz_steps.proofs.steps.Steps.at.Goals as goal

pub returns-then-number-eq0 : goal.returns-then-number-eq0
returns-then-number-eq0 c =
    let plan = c.args.plan.now in
    IfOk-weaker c.start_steps.result (λ (steps : List Taken). steps ≡ start_steps c.in_ok-board.board) (λ (steps : List Taken). steps ≡ steps_at plan c.args.number)
    (λ steps is. is ∙ ap start_steps c.in_ok-board.ensures ∙ sym (at_start plan c.args.number c.if-number-eq0.true)) c.start_steps.ensures

pub returns : goal.returns
returns c =
    let plan = c.args.plan.now in
    let count = c.args.number - 1 in
    let some : 0 < c.args.number = omega (arith, c.if-number-eq0.false) in
    let inputs : c.items-inputs.result.now ≡ plan.inputs = c.items-inputs.ensures.items ∙ c.inputs.ensures in
    let number : c.min.result ≡ min count (length plan.inputs) = c.min.ensures ∙ ap (λ (all : List Input). min count (length all)) inputs in
    let before = c.split_at.result.0.now in
    let later = c.split_at.result.1.now in
    let front : before ≡ take (min count (length plan.inputs)) plan.inputs = c.split_at.ensures.front ∙ ap (λ (n : ℕ). take n c.items-inputs.result.now) number ∙ ap (take (min count (length plan.inputs))) inputs in
    let back : later ≡ drop (min count (length plan.inputs)) plan.inputs = c.split_at.ensures.back ∙ ap (λ (n : ℕ). drop n c.items-inputs.result.now) number ∙ ap (drop (min count (length plan.inputs))) inputs in
    IfOk-weaker c.steps_behind.result (λ (steps : List Taken). steps ≡ steps_from later (stands_behind before c.in_ok-board.board)) (λ (steps : List Taken). steps ≡ steps_at plan c.args.number)
    (λ steps is. is ∙ ap (λ board. steps_from later (stands_behind before board)) c.in_ok-board.ensures ∙ sym (at_input plan c.args.number before later some front back)) c.steps_behind.ensures
