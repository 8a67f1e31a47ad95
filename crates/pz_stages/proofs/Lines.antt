-- Lines, part by part and step by step.
use Rattle.std.proofs.Common.{◌≡◌, ℕ, ◌+◌, List, [], ◌∷◌, ◌++◌, drop, fold, slice_get, Some, ap, sym, ◌∙◌, arith}
use Rattle.std.proofs.lemmas.List.{append-nil, append_assoc}
use Rattle.pz_steps.specs.Steps.{Taken}
use Rattle.pz_stages.specs.Parts.{concatenation}
use Rattle.pz_stages.specs.Stages.{step_lines}
use Rattle.pz_stages.specs.declared.detail.Detail.{Detail}
unfoldable use Rattle.pz_stages.specs.Stages.{lines_from}

-- texts that are added one by one
pub in_parts : (lines : List ℕ) (texts : List (List ℕ)) → fold (λ (so_far text : List ℕ). so_far ++ text) lines texts ≡ lines ++ concatenation texts
in_parts lines [] = sym (append-nil lines)
in_parts lines (text ∷ texts) = in_parts (lines ++ text) texts ∙ append_assoc lines text (concatenation texts)

first_step : (detail : Detail) (number tick : ℕ) (steps : List Taken) (step : Taken) → slice_get steps 0 ≡ Some step → lines_from detail number tick steps ≡ step_lines detail number tick step ++ lines_from detail number (tick + 1) (drop 1 steps)
unfolding lines_from
first_step detail number tick [] step is = absurd cc
first_step detail number tick (first ∷ later) step is =
    let same : first ≡ step = grind (arith, is) in
    ap (λ (s : Taken). step_lines detail number tick s ++ lines_from detail number (tick + 1) later) same

pub one_step : (detail : Detail) (number tick next : ℕ) (steps rest : List Taken) (step : Taken) (before texts whole : List ℕ) → before ++ lines_from detail number tick steps ≡ whole → slice_get steps 0 ≡ Some step → texts ≡ before ++ step_lines detail number tick step → rest ≡ drop 1 steps → next ≡ tick + 1 → texts ++ lines_from detail number next rest ≡ whole
one_step detail number tick next steps rest step before texts whole so_far first added later counted =
    (λ i. added i ++ lines_from detail number (counted i) (later i))
    ∙ append_assoc before (step_lines detail number tick step) (lines_from detail number (tick + 1) (drop 1 steps))
    ∙ ap (λ (more : List ℕ). before ++ more) (sym (first_step detail number tick steps step first))
    ∙ so_far

pub no_step : (detail : Detail) (number tick : ℕ) (steps : List Taken) (before whole : List ℕ) → before ++ lines_from detail number tick steps ≡ whole → steps ≡ [] → before ≡ whole
unfolding lines_from
no_step detail number tick steps before whole so_far none =
    sym (append-nil before) ∙ ap (λ (left : List Taken). before ++ lines_from detail number tick left) (sym none) ∙ so_far
