use Rattle.pz_session.proofs.Common.{drop, refl, ◌∙◌, shown_frames}
use Rattle.pz_session.proofs.Leaving.{left-at, left-link, left-link_stopped}
use Rattle.pz_session.proofs.player.Player.take_link.Goals as goal

pub returns-in_ok-self-in-Ok-clause-left : goal.returns-in_ok-self-in-Ok-clause-left
returns-in_ok-self-in-Ok-clause-left c = λ link gives.
    let p = c.args.self.now in
    left-at _ c.in-Ok.field-0.first c.in-Ok.field-0.second c.put.ensures c.put-in-Ok.ensures
    ∙ left-link c.args.allowed p.number p.taken (drop p.taken p.inputs) (shown_frames c.in-Ok.field-0) c.in-Ok.field-0.goes_on p.board c.phase_after.new.board c.in_ok-self-in-Ok.field-0 link
    (rw c.in-Ok.is at gives) c.in_ok-self-in-Ok.ensures.to_come

pub returns-in-Stopped-clause-left : goal.returns-in-Stopped-clause-left
returns-in-Stopped-clause-left c = λ link gives. left-link_stopped c.args.allowed _ _ link refl c.requires.first c.requires.second (rw (c.in-Err.is, c.in-Stopped.is) at gives)
