use Rattle.pz_turn.proofs.Stops.{never_for_memory}
use Rattle.pz_turn.proofs.laws.steps_never_end_for_memory.Goals as goal

pub returns : goal.returns
returns c = λ game program grid input. never_for_memory game program grid input
