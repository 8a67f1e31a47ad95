use Rattle.std.proofs.Common.{◌≡◌, refl, ◌∙◌, subst}
use Rattle.pz_session.specs.Board.{State, loaded_at}
use Rattle.pz_session.specs.Case.{state_of}
use Rattle.pz_steps.specs.Steps.{start_chain}
use Rattle.pz_open.specs.declared.telling.Told.{Told}
use Rattle.pz_open.specs.Telling.{IsTold}
use Rattle.pz_open.proofs.Chains.{if_ok}
use Rattle.pz_open.proofs.Moving.{begun_goes, begun_items, begun_place}
use Rattle.pz_open.proofs.place.begin.Goals as goal

abbrev before : goal.After-ended → Told
before c = record { items = c.new.result; frames = 0; taken = 0 }

told : (c : goal.After-ended) → IsTold (before c) (start_chain (state_of c.args.plan.now)) c.start.new.told c.in_ok-stop.stop c.start.new.board
told c =
    let is : c.in_ok-board.board ≡ state_of c.args.plan.now = c.in_ok-board.ensures ∙ (λ i. loaded_at (c.game.ensures.game i) (c.program.ensures i) (c.order.ensures i) (c.recorded.ensures i) (c.first.ensures i)) in
    subst (λ (s : State). IsTold (before c) (start_chain s) c.start.new.told c.in_ok-stop.stop c.start.new.board) is c.in_ok-stop.ensures

pub returns-clause-place : goal.returns-clause-place
returns-clause-place c = if_ok c.ended.result (λ moved ends. begun_place c.args.plan.now (before c) c.start.new.told c.start.new.board moved c.new.ensures.items refl refl c.in_ok-stop.stop (told c) ends) c.ended.ensures

pub returns-clause-go_on : goal.returns-clause-go_on
returns-clause-go_on c = if_ok c.ended.result (λ moved ends. begun_goes c.args.plan.now (before c) c.start.new.told c.start.new.board moved c.in_ok-stop.stop (told c) ends) c.ended.ensures

pub returns-clause-items : goal.returns-clause-items
returns-clause-items c = if_ok c.ended.result (λ moved ends. begun_items c.args.plan.now (before c) c.start.new.told c.start.new.board moved c.new.ensures.items refl refl c.in_ok-stop.stop (told c) ends) c.ended.ensures
