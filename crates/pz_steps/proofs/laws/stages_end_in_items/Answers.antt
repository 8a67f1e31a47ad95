use Rattle.pz_steps.proofs.Staged.{items_same}
use Rattle.pz_steps.proofs.laws.stages_end_in_items.Goals as goal

pub returns : goal.returns
returns c = λ plan. items_same plan
