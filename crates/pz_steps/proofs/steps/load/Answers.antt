use Rattle.std.proofs.Common.{◌≡◌, ◌∙◌}
use Rattle.std.proofs.lemmas.Result.{IfOk-weaker}
use Rattle.pz_session.specs.Board.{State, loaded_at}
use Rattle.pz_session.specs.Case.{state_of}
use Rattle.pz_steps.proofs.steps.load.Goals as goal

pub returns : goal.returns
returns c =
    let plan = c.args.plan.now in
    let same : loaded_at c.game.result.now c.program.result.now c.order.result c.recorded.result.now c.first.result ≡ state_of plan =
    λ i. loaded_at (c.game.ensures.game i) (c.program.ensures i) (c.order.ensures i) (c.recorded.ensures i) (c.first.ensures i) in
    IfOk-weaker c.load.result (λ (board : State). board ≡ loaded_at c.game.result.now c.program.result.now c.order.result c.recorded.result.now c.first.result) (λ (board : State). board ≡ state_of plan)
    (λ board is. is ∙ same) c.load.ensures
