-- The steps of an input by its number.
use Rattle.std.proofs.Common.{◌≡◌, ℕ, zero, suc, ◌-◌, ◌<◌, List, take, drop, length, min, ap, ap₂, sym, ◌∙◌, arith}
use Rattle.std.proofs.lemmas.List.{drop_min, take_min}
use Rattle.pz_record.specs.declared.input.Input.{Input}
use Rattle.pz_case.specs.Plan.{PlanState}
use Rattle.pz_session.specs.Case.{state_of}
use Rattle.pz_steps.specs.Steps.{stands_behind, start_steps, steps_from}
unfoldable use Rattle.pz_steps.specs.Steps.{standing_after, steps_at}

pub at_start : (plan : PlanState) (number : ℕ) → number ≡ 0 → steps_at plan number ≡ start_steps (state_of plan)
unfolding steps_at
at_start plan number is = ap (λ (n : ℕ). steps_at plan n) is

behind_some : (plan : PlanState) (number : ℕ) → 0 < number → steps_at plan number ≡ steps_from (drop (number - 1) plan.inputs) (stands_behind (take (number - 1) plan.inputs) (state_of plan))
unfolding steps_at standing_after
behind_some plan zero some = absurd (omega (arith, some))
behind_some plan (suc count) some =
    let one : count ≡ suc count - 1 = omega arith in
    ap (λ (n : ℕ). steps_from (drop n plan.inputs) (stands_behind (take n plan.inputs) (state_of plan))) one

pub at_input : (plan : PlanState) (number : ℕ) (before later : List Input) → 0 < number → before ≡ take (min (number - 1) (length plan.inputs)) plan.inputs → later ≡ drop (min (number - 1) (length plan.inputs)) plan.inputs → steps_at plan number ≡ steps_from later (stands_behind before (state_of plan))
at_input plan number before later some front back =
    behind_some plan number some ∙ sym (ap₂ (λ (l b : List Input). steps_from l (stands_behind b (state_of plan))) (back ∙ drop_min (number - 1) plan.inputs) (front ∙ take_min (number - 1) plan.inputs))
