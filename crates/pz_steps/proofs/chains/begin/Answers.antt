use Rattle.std.proofs.Common.{◌≡◌}
use Rattle.pz_steps.specs.Chains.{IsLeft, leaving, left_of}
use Rattle.std.proofs.lemmas.Result.{IfOk-weaker}
unfoldable use Rattle.pz_session.specs.Board.{first_link}
use Rattle.pz_steps.proofs.chains.begin.Goals as goal

pub returns : goal.returns
returns c =
    IfOk-weaker c.goes_on.result (λ more. IsLeft c.begin-shown.result more) (λ more. left_of (first_link c.args.input c.args.board.now) ≡ leaving c.begin-shown.new.self more) (λ more is. is (first_link c.args.input c.args.board.now) c.begin-shown.new.self c.begin-shown.ensures) c.goes_on.ensures
