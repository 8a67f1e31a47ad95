use Rattle.pz_session.proofs.Common.{◌≡◌, ◌++◌, length}
use Rattle.pz_session.proofs.run.left_in.Given as goal

abbrev pub decreases-items : goal.decreases-items
decreases-items l = length l.run.items

abbrev pub invariant-items : goal.invariant-items
invariant-items l = l.items.items ++ l.run.items ≡ l.fn.run.items
