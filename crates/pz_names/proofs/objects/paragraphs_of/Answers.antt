use Rattle.std.proofs.Common.{◌-◌, ◌++◌, length, ap, sym, ◌∙◌, arith}
use Rattle.pz_names.specs.Objects.{paragraphs_within}
use Rattle.pz_names.proofs.ObjectLemmas.{paragraphs_within-end, paragraphs_within-out, paragraphs_within-turn}
use Rattle.pz_names.proofs.objects.paragraphs_of.Goals as goal
use Rattle.pz_names.proofs.objects.paragraphs_of.Goals.{else-loop-step-test, then-loop-step-test+in_default}

pub loop-step-preserved : goal.loop-step-preserved
loop-step-preserved c =
    let n = length c.args.lines.now in
    let i = c.loop-step._step in
    let read = paragraphs_within-turn c.loop-step.found.items c.read_paragraph.new.found.items n i c.in-Some.line.now c.in-Some.others.now c.in_ok-rest.rest.now c.loop-step-test.true c.in_ok-rest.ensures in
    read ∙ (ap (λ r. c.loop-step.found.items ++ paragraphs_within (n - i) r) (sym c.in-Some.ensures.cases.0) ∙ c.loop-step.invariant)

pub returns : goal.returns
returns c =
    elim c.loop-step-test.branch [
      | else-loop-step-test w ↦ sym (paragraphs_within-out c.loop-step.found.items (length c.args.lines.now) c.loop-step._step c.loop-step.rest.now (omega arith)) ∙ c.loop-step.invariant
      | then-loop-step-test+in_default w ↦ sym (paragraphs_within-end c.loop-step.found.items (length c.args.lines.now - c.loop-step._step) c.loop-step.rest.now w.in_default.ensures.cases) ∙ c.loop-step.invariant
    ]
