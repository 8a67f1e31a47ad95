use Rattle.std.proofs.Common.{◌≡◌}
use Rattle.pz_steps.specs.Chains.{chain_after}
use Rattle.pz_steps.specs.Steps.{settled_in}
use Rattle.pz_steps.proofs.chains.finish.Given as goal

abbrev pub invariant-ticks : goal.invariant-ticks
invariant-ticks l = settled_in (chain_after l.more l.left l.board) ≡ settled_in (chain_after l.fn.goes_on l.fn.allowed l.fn.board)

abbrev pub decreases-ticks : goal.decreases-ticks
decreases-ticks l = l.left
