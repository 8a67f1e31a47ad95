use Rattle.std.proofs.Common.{◌≡◌}
use Rattle.pz_steps.specs.Chains.{IsLeft, leaving, left_of}
use Rattle.std.proofs.lemmas.Result.{IfOk-weaker}
unfoldable use Rattle.pz_session.specs.Board.{tick_link}
use Rattle.pz_steps.proofs.chains.tick.Goals as goal

pub returns : goal.returns
returns c =
    IfOk-weaker c.goes_on.result (λ more. IsLeft c.tick-shown.result more) (λ more. left_of (tick_link c.args.board.now) ≡ leaving c.tick-shown.new.self more) (λ more is. is (tick_link c.args.board.now) c.tick-shown.new.self c.tick-shown.ensures) c.goes_on.ensures
