use Rattle.std.proofs.Common.{Option}
use Rattle.pz_case.specs.declared.item.Stop.{Stop}
use Rattle.pz_session.specs.Board.{State}
use Rattle.pz_open.specs.declared.telling.Told.{Told}
use Rattle.pz_open.specs.Telling.{IsTold, chain_from}
use Rattle.pz_open.proofs.telling.finish.Given as goal

-- what is told of the rest of the chain tells the whole chain
abbrev pub invariant-ticks : goal.invariant-ticks
invariant-ticks l = (after : Told) (stop : Option Stop) (end : State) → IsTold l.told (chain_from l.more l.left l.board) after stop end → IsTold l.fn.told (chain_from l.goes_on l.allowed l.fn.board) after stop end

abbrev pub decreases-ticks : goal.decreases-ticks
decreases-ticks l = l.left
