use Rattle.std.proofs.Common.{◌-◌, ◌<◌, ◌≤◌}
use Rattle.pz_open.proofs.opened.next_worth_keeping.Given as goal

abbrev pub invariant-inputs : goal.invariant-inputs
invariant-inputs l = (l.from < l.at) × (l.at ≤ l.count)

abbrev pub decreases-inputs : goal.decreases-inputs
decreases-inputs l = l.count - l.at
