use Rattle.pz_session.proofs.Common.{◌≡◌, true, subst, IfOk, has, cancel, State}
use Rattle.pz_session.proofs.BoardLemmas.{stays_cancelled}
use Rattle.pz_session.proofs.board.Board.turn.Goals as goal

pub returns-clause-cancelled : goal.returns-clause-cancelled
returns-clause-cancelled c =
    subst (λ (s : State). IfOk c.step_in.result (λ end. has end.commands cancel ≡ true → end.level.grid ≡ s.level)) c.self.view_is (stays_cancelled _ _ _ _ _ c.step_in.ensures.end)
