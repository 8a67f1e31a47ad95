use Rattle.pz_turn.proofs.Unchanged.{pass_leaves}
use Rattle.pz_turn.proofs.laws.quiet_pass_leaves.Goals as goal

pub returns : goal.returns
returns c = λ group grid end. pass_leaves group grid end
