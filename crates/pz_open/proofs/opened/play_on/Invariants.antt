use Rattle.std.proofs.Common.{◌-◌, ◌≤◌}
use Rattle.std.specs.Prelude.{All, take}
use Rattle.pz_open.specs.Kept.{IsKeptOf, IsStanding}
use Rattle.pz_open.proofs.opened.play_on.Given as goal

-- the place is behind the inputs that were taken
abbrev pub invariant-stages : goal.invariant-stages
invariant-stages l = (l.taken ≤ l.count) × (IsStanding l.plan (take l.taken l.inputs) l.place) × All (IsKeptOf l.plan l.inputs) l.kept.items

abbrev pub decreases-stages : goal.decreases-stages
decreases-stages l = l.count - l.taken
