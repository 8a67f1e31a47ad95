use Rattle.pz_steps.specs.Steps.{taken_step}
unfoldable use Rattle.pz_stages.specs.Stages.{lines_from}
use Rattle.pz_stages.proofs.Lines.{no_step, one_step}
use Rattle.pz_stages.proofs.course.input_lines.Goals as goal

pub steps-preserved : goal.steps-preserved
steps-preserved c =
    let step = taken_step c.in-Some.step.board.now c.in-Some.step.input in
    one_step c.args.detail c.args.number c.steps.tick c.in_ok-tick.tick c.steps.steps c.advance.new.self step c.steps.lines.items c.put_step.new.lines.items (lines_from c.args.detail c.args.number 0 c.args.steps)
    c.steps.invariant c.in-Some.ensures c.in_ok-put_step.ensures c.in_ok-advance.ensures c.in_ok-tick.ensures

pub returns : goal.returns
returns c = no_step c.args.detail c.args.number c.steps.tick c.steps.steps c.steps.lines.items (lines_from c.args.detail c.args.number 0 c.args.steps) c.steps.invariant c.in_default.ensures
