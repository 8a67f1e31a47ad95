use Rattle.std.proofs.Common.{◌≡◌, ◌++◌, ◌∙◌, Option, sym, subst}
use Rattle.pz_case.specs.declared.item.Stop.{Stop}
use Rattle.pz_session.specs.Board.{State, IsOneGame}
use Rattle.pz_session.specs.Standing.{Stood, state_at}
use Rattle.pz_open.specs.Opened.{StandsAt}
use Rattle.pz_open.specs.Places.{IsLed, IsPlace, IsStood, state_of_stood}
use Rattle.pz_open.proofs.Moving.{place_of_stood, stays_so, stood_there}
use Rattle.pz_open.proofs.place.go_through.Goals as goal

pub returns-in-Stopped-clause-place : goal.returns-in-Stopped-clause-place
returns-in-Stopped-clause-place c = λ before at.
    stays_so c.args.plan.now before c.args.inputs.now c.in-Stopped.frames c.in-Stopped.stop (subst (IsPlace c.args.plan.now before) c.in-Stopped.is at)

pub returns-in-None-clause-go_on : goal.returns-in-None-clause-go_on
returns-in-None-clause-go_on c =
    let plan = c.args.plan.now in
    let is : c.resume-board.result ≡ state_of_stood plan c.in-At.standing =
    c.resume-board.ensures ∙ (λ i. state_at (c.game.ensures.game i) (c.program.ensures i) (c.order.ensures i) (c.recorded.ensures i) c.in-At.standing) in
    let stood : IsStood plan c.play_all.new.board = c.in_ok-stop-in-At.ensures.stood plan (stood_there plan c.in-At.standing c.resume-board.result is) c.in-None.is in
    subst (λ (s : Stood). IsOneGame (state_of_stood plan s)) (sym c.leave.ensures.stood) (subst IsOneGame (sym stood) c.leave.ensures.game)

pub returns-in-None-clause-place : goal.returns-in-None-clause-place
returns-in-None-clause-place c = λ before at.
    let plan = c.args.plan.now in
    let is : c.resume-board.result ≡ state_of_stood plan c.in-At.standing =
    c.resume-board.ensures ∙ (λ i. state_at (c.game.ensures.game i) (c.program.ensures i) (c.order.ensures i) (c.recorded.ensures i) c.in-At.standing) in
    let resumed : IsStood plan c.resume-board.result = stood_there plan c.in-At.standing c.resume-board.result is in
    let stood : IsStood plan c.play_all.new.board = c.in_ok-stop-in-At.ensures.stood plan resumed c.in-None.is in
    let there : StandsAt plan before c.in-At.frames c.resume-board.result = subst (StandsAt plan before c.in-At.frames) (sym is) (subst (IsPlace plan before) c.in-At.is at) in
    let led = subst (λ (stop : Option Stop). IsLed plan (before ++ c.args.inputs.now) c.play_all.new.frames stop c.play_all.new.board) c.in-None.is (c.in_ok-stop-in-At.ensures.led plan before resumed there) in
    subst (λ (s : Stood). StandsAt plan (before ++ c.args.inputs.now) c.play_all.new.frames (state_of_stood plan s)) (sym c.leave.ensures.stood)
    (place_of_stood plan (before ++ c.args.inputs.now) c.play_all.new.frames c.play_all.new.board stood led)
