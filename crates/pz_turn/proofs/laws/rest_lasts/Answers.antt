use Rattle.pz_turn.proofs.Unchanged.{rest_rests}
use Rattle.pz_turn.proofs.laws.rest_lasts.Goals as goal

pub returns : goal.returns
returns c = λ group grid end. rest_rests 200 group grid end
