use Rattle.pz_plan.proofs.Unions.{unions_hold}
use Rattle.pz_plan.proofs.laws.unions_hold_what_either_holds.Goals as goal

pub returns : goal.returns
returns c = λ command a b. unions_hold command a b
