use Rattle.std.proofs.Common.{◌≡◌, Ok}
use Rattle.pz_steps.specs.Chains.{IsLeft, leaving, left_of}
use Rattle.std.proofs.lemmas.Result.{IfOk-weaker}
unfoldable use Rattle.pz_session.specs.Board.{start_link}
use Rattle.pz_steps.proofs.chains.begin_session.Goals as goal

pub returns : goal.returns
returns c =
    IfOk-weaker c.goes_on.result (λ more. IsLeft c.start-shown.result more) (λ more. left_of (Ok (start_link c.args.board.now)) ≡ leaving c.start-shown.new.self more) (λ more is. is (Ok (start_link c.args.board.now)) c.start-shown.new.self c.start-shown.ensures) c.goes_on.ensures
