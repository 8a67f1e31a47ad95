use Rattle.pz_session.proofs.Common.{ap, ◌∙◌, State, loaded_at}
use Rattle.pz_session.proofs.board.Board.enter.Goals as goal

pub returns : goal.returns
returns c =
    let b = c.self.inside in
    let level = c.in_ok-level.ensures.level in
    let target = c.in_ok-level.ensures.target in
    let past = c.clear.ensures in
    (λ i. record (loaded_at b.game.now b.program.now b.order b.recorded.now c.args.next) { level = level i; target = target i; past = past i }) ∙ ap (λ (s : State). loaded_at s.game s.program s.order s.recorded c.args.next) c.self.view_is
