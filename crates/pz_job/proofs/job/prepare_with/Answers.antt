use Rattle.std.proofs.Common.{◌∙◌}
use Rattle.pz_job.proofs.FaultLines.{job_names}
use Rattle.pz_job.proofs.job.prepare_with.Goals as goal

pub returns-clause-lined : goal.returns-clause-lined
returns-clause-lined g c = job_names c.args.order c.args.entries.items c.new.result (c.new.ensures ∙ c.in_ok-cases.ensures)
