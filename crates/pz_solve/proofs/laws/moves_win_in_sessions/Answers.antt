use Rattle.pz_solve.proofs.Sessions.{moves_win}
use Rattle.pz_solve.proofs.laws.moves_win_in_sessions.Goals as goal

pub returns : goal.returns
returns c = moves_win
