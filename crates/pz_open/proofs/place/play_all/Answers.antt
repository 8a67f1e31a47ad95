use Rattle.std.proofs.Common.{rules, ◌≡◌, ◌+◌, ◌<◌, ◌≤◌, ◌∷◌, [], ◌++◌, List, Option, length, sym, subst, ap, ◌∙◌, arith}
use Rattle.std.specs.Prelude.{drop, take}
use Rattle.std.proofs.lemmas.List.{append_assoc, take-append-drop, take_all, take_more}
use Rattle.pz_record.specs.declared.input.Input.{Input}
use Rattle.pz_case.specs.declared.item.Stop.{Stop}
use Rattle.pz_open.specs.Opened.{HasStopped, StandsAt}
use Rattle.pz_open.specs.Places.{IsLed}
use Rattle.pz_open.proofs.Moving.{stays_so}
use Rattle.pz_open.proofs.place.play_all.Goals as goal

pub returns-in-Some-clause-led : goal.returns-in-Some-clause-led
returns-in-Some-clause-led c = λ plan before stood at.
    let inputs = c.args.inputs.now in let taken = c.inputs.taken in let frames = c.play_one.new.frames in
    let below : taken < length inputs = search rules in
    let led = subst (λ (all : List Input). IsLed plan all frames c.in_ok-stop.field-0 c.play_one.new.board)
    (append_assoc before (take taken inputs) _ ∙ ap (λ (first : List Input). before ++ first) (sym (take_more inputs taken _ below)))
    (c.in_ok-stop.ensures.led plan (before ++ take taken inputs) (c.inputs.invariant.1 plan stood) (c.inputs.invariant.2 plan before stood at)) in
    let stopped : HasStopped plan (before ++ take (taken + 1) inputs) frames c.in-Some.stop =
    subst (λ (stop : Option Stop). IsLed plan (before ++ take (taken + 1) inputs) frames stop c.play_one.new.board) c.in-Some.is led in
    subst (λ (all : List Input). HasStopped plan all frames c.in-Some.stop)
    (append_assoc before (take (taken + 1) inputs) (drop (taken + 1) inputs) ∙ ap (λ (all : List Input). before ++ all) (take-append-drop (taken + 1) inputs))
    (stays_so plan (before ++ take (taken + 1) inputs) (drop (taken + 1) inputs) frames c.in-Some.stop stopped)

pub inputs-preserved : goal.inputs-preserved
inputs-preserved c =
    let inputs = c.args.inputs.now in let taken = c.inputs.taken in let frames = c.play_one.new.frames in
    let below : taken < length inputs = search rules in
    let low : taken + 1 ≤ length inputs = grind (arith, below) in (
      low,
      λ plan stood. c.in_ok-stop.ensures.stood plan (c.inputs.invariant.1 plan stood) c.in-None.is,
      λ plan before stood at.
          let led = subst (λ (all : List Input). IsLed plan all frames c.in_ok-stop.field-0 c.play_one.new.board)
          (append_assoc before (take taken inputs) _ ∙ ap (λ (first : List Input). before ++ first) (sym (take_more inputs taken _ below)))
          (c.in_ok-stop.ensures.led plan (before ++ take taken inputs) (c.inputs.invariant.1 plan stood) (c.inputs.invariant.2 plan before stood at)) in
          subst (λ (stop : Option Stop). IsLed plan (before ++ take (taken + 1) inputs) frames stop c.play_one.new.board) c.in-None.is led,
    )

pub returns-clause-stood : goal.returns-clause-stood
returns-clause-stood c = λ plan stood none. c.inputs.invariant.1 plan stood

pub returns-clause-led : goal.returns-clause-led
returns-clause-led c = λ plan before stood at.
    let inputs = c.args.inputs.now in
    let all : length inputs ≤ c.inputs.taken = search rules in
    subst (λ (whole : List Input). StandsAt plan (before ++ whole) c.inputs.frames c.inputs.board) (take_all c.inputs.taken inputs all) (c.inputs.invariant.2 plan before stood at)
