use Rattle.std.proofs.Common.{ap, ◌∙◌}
use Rattle.pz_job.specs.Rulebooks.{rulebook_of}
use Rattle.pz_job.specs.Job.{plan_from}
use Rattle.pz_job.proofs.Plans.{plan_from-rulebook_of}
use Rattle.pz_job.proofs.job.make_case.Goals as goal

pub returns : goal.returns
returns c =
    let entry = c.args.entry in
    let given = c.in_ok-answer.ensures ∙ ap rulebook_of c.as_str.ensures in
    let plan = c.make_plan-plan.ensures
    ∙ ap (λ r. plan_from r entry.inputs entry.recorded entry.index c.args.order) given
    ∙ plan_from-rulebook_of entry.inputs entry.recorded entry.index c.args.order entry.source in
    ap (λ p. record { name = entry.name; plan = p }) plan
