use Rattle.std.proofs.Common.{◌≤◌}
use Rattle.pz_job.proofs.sources.bring_forward.Given as goal

abbrev pub invariant-loop-number : goal.invariant-loop-number
invariant-loop-number l = l.count ≤ l.number
