use Rattle.pz_session.proofs.Closing.{plan_closes}
use Rattle.pz_session.proofs.laws.cases_close_once.Goals as goal

pub returns : goal.returns
returns c = λ case. plan_closes case.plan
