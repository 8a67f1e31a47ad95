use Rattle.std.proofs.Common.{◌∙◌, sym}
use Rattle.pz_serving.proofs.Lines.{as_many}
use Rattle.pz_serving.proofs.as_lines.AsLinesPlayable.count.Goals as goal

pub returns-clause-count : goal.returns-clause-count
returns-clause-count c = c.len.ensures.count ∙ sym (as_many c.args.self.now.job.now)
