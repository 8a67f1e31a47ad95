use Rattle.std.proofs.Common.{◌≡◌, refl, ◌∙◌, subst}
use Rattle.pz_session.specs.Board.{State}
use Rattle.pz_session.specs.Standing.{state_at}
use Rattle.pz_steps.specs.Steps.{chain_of}
use Rattle.pz_open.specs.declared.telling.Told.{Told}
use Rattle.pz_open.specs.Telling.{IsTold}
use Rattle.pz_open.specs.Places.{IsPlace, state_of_stood}
use Rattle.pz_open.proofs.Chains.{if_ok}
use Rattle.pz_open.proofs.Moving.{led_goes, led_items, led_place}
use Rattle.pz_open.proofs.Opening.{stays_stopped}
use Rattle.pz_open.proofs.place.go_on.Goals as goal

pub returns-in_ok-push-in-Stopped-clause-place : goal.returns-in_ok-push-in-Stopped-clause-place
returns-in_ok-push-in-Stopped-clause-place c = λ inputs taken at.
    stays_stopped c.args.plan.now inputs c.in-Stopped.frames c.in-Stopped.stop (subst (IsPlace c.args.plan.now inputs) c.in-Stopped.is at) c.args.input

abbrev before : goal.After-ended → Told
before c = record { items = c.new.result; frames = c.in-At.frames; taken = c.args.taken }

told : (c : goal.After-ended) → IsTold (before c) (chain_of c.args.input (state_of_stood c.args.plan.now c.in-At.standing)) c.play.new.told c.in_ok-stop-in-At.stop c.play.new.board
told c =
    let is : c.resume-board.result ≡ state_of_stood c.args.plan.now c.in-At.standing =
    c.resume-board.ensures ∙ (λ i. state_at (c.game.ensures.game i) (c.program.ensures i) (c.order.ensures i) (c.recorded.ensures i) c.in-At.standing) in
    subst (λ (s : State). IsTold (before c) (chain_of c.args.input s) c.play.new.told c.in_ok-stop-in-At.stop c.play.new.board) is c.in_ok-stop-in-At.ensures

pub returns-in_ok-stop-in-At-clause-go_on : goal.returns-in_ok-stop-in-At-clause-go_on
returns-in_ok-stop-in-At-clause-go_on c = if_ok c.ended.result (λ moved ends.
    led_goes c.args.plan.now c.in-At.standing c.args.input (before c) c.play.new.told c.play.new.board moved c.in_ok-stop-in-At.stop (told c) ends) c.ended.ensures

pub returns-in_ok-stop-in-At-clause-place : goal.returns-in_ok-stop-in-At-clause-place
returns-in_ok-stop-in-At-clause-place c = if_ok c.ended.result (λ moved ends. λ inputs taken at.
    led_place c.args.plan.now c.in-At.standing c.args.input (before c) c.play.new.told c.play.new.board moved inputs c.in-At.frames (subst (IsPlace c.args.plan.now inputs) c.in-At.is at) c.new.ensures.items refl taken
    c.in_ok-stop-in-At.stop (told c) ends) c.ended.ensures

pub returns-in_ok-stop-in-At-clause-items : goal.returns-in_ok-stop-in-At-clause-items
returns-in_ok-stop-in-At-clause-items c = if_ok c.ended.result (λ moved ends. λ inputs taken at.
    led_items c.args.plan.now c.in-At.standing c.args.input (before c) c.play.new.told c.play.new.board moved inputs c.in-At.frames (subst (IsPlace c.args.plan.now inputs) c.in-At.is at) c.new.ensures.items refl taken
    c.in_ok-stop-in-At.stop (told c) ends) c.ended.ensures
