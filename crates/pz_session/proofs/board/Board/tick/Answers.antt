use Rattle.pz_session.proofs.Common.{ap, sym, ◌∙◌, LevelState, at_level, state_in}
use Rattle.pz_session.proofs.BoardLemmas.{ticked}
use Rattle.pz_session.proofs.board.Board.tick.Goals as goal

pub returns : goal.returns
returns c =
    let end = c.in_ok-end.end in
    let there = ap (λ (l : LevelState). at_level l.grid (state_in c.self.inside)) c.put_before.ensures.place ∙ ap (at_level end.level.grid) (c.self.view_is ∙ c.turn.ensures.same) in
    ticked c.args.self.now _ c.take.new.self (record { level = end.level.grid; commands = end.commands; changed = end.changed }) c.take.result c.in_ok-end.ensures.end (sym c.is_idle.ensures ∙ c.if-is_idle.false) c.in_ok-end.ensures.cancelled there c.take.ensures
