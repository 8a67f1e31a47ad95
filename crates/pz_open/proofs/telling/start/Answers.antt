use Rattle.std.proofs.Common.{Ok}
unfoldable use Rattle.pz_session.specs.Board.{start_link}
use Rattle.pz_open.proofs.Chains.{if_ok}
use Rattle.pz_open.proofs.telling.start.Goals as goal

pub returns : goal.returns
returns c = if_ok c.follow.result (λ stop told. told (Ok (start_link c.args.board.now)) c.start-outcome.ensures) c.follow.ensures
