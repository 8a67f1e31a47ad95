use Rattle.std.proofs.Common.{rules, ◌≡◌, Bool, Result, Ok, Err, Some, subst, sym}
use Rattle.pz_case.specs.declared.item.Stop.{Stop}
use Rattle.pz_session.specs.Chain.{Link, follow, shown_frames, ticks}
unfoldable use Rattle.pz_session.specs.Board.{tick_link}
use Rattle.pz_session.specs.Board.{State}
use Rattle.pz_open.specs.Telling.{IsTold, chain_from}
use Rattle.pz_open.proofs.Chains.{gives_shown, gives_stop, if_ok, told_link, told_stop}
use Rattle.pz_open.proofs.telling.follow.Goals as goal

pub returns-in_ok-goes_on-in-Ok : goal.returns-in_ok-goes_on-in-Ok
returns-in_ok-goes_on-in-Ok c = if_ok c.finish.result (λ stop told. λ link gives.
    let whole : Link State = record { shown = shown_frames c.in-Ok.shown; after = c.args.board.now; goes_on = c.in-Ok.shown.goes_on } in
    let is : link ≡ Ok whole = gives_shown link c.args.board.now c.args.outcome c.in-Ok.shown (search rules) gives in
    subst (λ (l : Result (Link State) Stop). IsTold c.args.told.now (follow (ticks tick_link c.args.allowed) l) c.finish.new.told stop c.finish.new.board) (sym is)
    (told_link c.args.told.now c.add_shown.new.self c.finish.new.told whole c.args.allowed stop c.finish.new.board c.in_ok-goes_on-in-Ok.ensures.items c.in_ok-goes_on-in-Ok.ensures.frames c.add_shown.ensures.taken
    (subst (λ (b : Bool). IsTold c.add_shown.new.self (chain_from b c.args.allowed c.args.board.now) c.finish.new.told stop c.finish.new.board) c.in_ok-goes_on-in-Ok.ensures.goes_on told))) c.finish.ensures

pub returns-in-Err-Stopped : goal.returns-in-Err-Stopped
returns-in-Err-Stopped c = λ link gives.
    let is : link ≡ Err c.in-Err-Stopped.stop = gives_stop link c.args.board.now c.args.outcome c.in-Err-Stopped.stop (search rules) gives in
    subst (λ (l : Result (Link State) Stop). IsTold c.args.told.now (follow (ticks tick_link c.args.allowed) l) c.args.told.now (Some c.in-Err-Stopped.stop) c.args.board.now) (sym is) (told_stop c.args.told.now c.in-Err-Stopped.stop c.args.board.now)
