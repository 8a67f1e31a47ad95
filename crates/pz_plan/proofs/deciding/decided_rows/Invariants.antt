use Rattle.std.proofs.Common.{◌≡◌, drop}
use Rattle.pz_plan.specs.Deciding.{decided_rows}
use Rattle.pz_plan.proofs.Joining.{after}
use Rattle.pz_plan.proofs.deciding.decided_rows.Given as goal

abbrev pub invariant-loop-number : goal.invariant-loop-number
invariant-loop-number l = after l.out.items (decided_rows l.choices l.number (drop l.number l.rows)) ≡ decided_rows l.choices 0 l.rows
