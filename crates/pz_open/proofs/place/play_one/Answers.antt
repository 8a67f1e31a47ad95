use Rattle.std.proofs.Common.{◌≡◌, ◌∷◌, [], ◌++◌, List, Option, None, Some, sym, subst}
use Rattle.pz_record.specs.declared.input.Input.{Input}
use Rattle.pz_case.specs.declared.item.Stop.{Stop}
use Rattle.pz_session.specs.Board.{State}
use Rattle.pz_steps.specs.Steps.{chain_of}
use Rattle.pz_open.specs.declared.telling.Told.{Told}
use Rattle.pz_open.specs.Opened.{StandsAt}
use Rattle.pz_open.specs.Places.{IsStood}
use Rattle.pz_open.specs.Telling.{IsTold}
use Rattle.pz_open.proofs.Moving.{has_stopped_behind, stands_behind, stays_stood}
use Rattle.pz_open.proofs.place.play_one.Goals as goal

pub returns-in-Some-clause-led : goal.returns-in-Some-clause-led
returns-in-Some-clause-led c = λ plan before stood at.
    let told : Told = record { items = c.new.result; frames = c.args.frames.now; taken = 0 } in
    let is = subst (λ (stop : Option Stop). IsTold told (chain_of c.args.input c.args.board.now) c.play.new.told stop c.play.new.board) c.in-Some.is c.in_ok-stop.ensures in
    has_stopped_behind plan c.args.board.now stood c.args.input told c.play.new.told c.play.new.board before c.in-Some.stop c.play.new.board at is

pub returns-clause-stood : goal.returns-clause-stood
returns-clause-stood c = λ plan stood none.
    let told : Told = record { items = c.new.result; frames = c.args.frames.now; taken = 0 } in
    let is = subst (λ (stop : Option Stop). IsTold told (chain_of c.args.input c.args.board.now) c.play.new.told stop c.play.new.board) c.in-None.is c.in_ok-stop.ensures in
    subst (IsStood plan) (sym c.in_ok-settle-in-None.ensures) (stays_stood plan c.args.board.now stood c.args.input told c.play.new.told c.play.new.board is)

pub returns-clause-led : goal.returns-clause-led
returns-clause-led c = λ plan before stood at.
    let told : Told = record { items = c.new.result; frames = c.args.frames.now; taken = 0 } in
    let is = subst (λ (stop : Option Stop). IsTold told (chain_of c.args.input c.args.board.now) c.play.new.told stop c.play.new.board) c.in-None.is c.in_ok-stop.ensures in
    subst (StandsAt plan (before ++ c.args.input ∷ []) c.play.new.told.frames) (sym c.in_ok-settle-in-None.ensures)
    (stands_behind plan c.args.board.now stood c.args.input told c.play.new.told c.play.new.board before at is)
