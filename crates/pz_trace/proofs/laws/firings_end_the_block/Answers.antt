use Rattle.pz_trace.proofs.FiringEnd.{firings_end}
use Rattle.pz_trace.proofs.laws.firings_end_the_block.Goals as goal

pub returns : goal.returns
returns c = λ rules block grid. firings_end rules block grid
