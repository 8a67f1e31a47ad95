use Rattle.pz_steps.proofs.GoingOn.{go_on}
use Rattle.pz_steps.proofs.laws.items_go_on.Goals as goal

pub returns : goal.returns
returns c = λ plan count state is. go_on plan count state is
