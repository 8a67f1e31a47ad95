use Rattle.pz_turn.proofs.Combining.{length-combinations}
use Rattle.pz_turn.proofs.laws.combinations_are_counted.Goals as goal

pub returns : goal.returns
returns c = λ lists. length-combinations lists
