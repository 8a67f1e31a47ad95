use Rattle.pz_session.proofs.Common.{Ok, start_link}
use Rattle.pz_session.proofs.player.Player.start.Goals as goal

pub returns-in-Ok-clause-left : goal.returns-in-Ok-clause-left
returns-in-Ok-clause-left c = c.in-Ok.ensures.left (Ok (start_link c.args.board)) c.start-outcome.ensures
