use Rattle.std.proofs.Common.{◌≡◌, map}
use Rattle.pz_job.specs.Job.{case_of}
use Rattle.pz_job.proofs.job.make_cases.Given as goal

abbrev pub invariant-loop-entry : goal.invariant-loop-entry
invariant-loop-entry l = l.cases.items ≡ map (case_of l.order) l.yielded
