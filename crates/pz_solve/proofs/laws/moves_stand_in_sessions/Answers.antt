use Rattle.pz_solve.proofs.Sessions.{moves_stand}
use Rattle.pz_solve.proofs.laws.moves_stand_in_sessions.Goals as goal

pub returns : goal.returns
returns c = moves_stand
