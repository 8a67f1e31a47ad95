use Rattle.std.proofs.Common.{◌≡◌, ◌++◌, length}
use Rattle.pz_stages.specs.Stages.{course_lines, step_lines}
use Rattle.pz_stages.specs.Writer.{IsWriterOf}
use Rattle.pz_steps.specs.Steps.{taken_step}
use Rattle.pz_stages.proofs.course.put_step.Given as goal

abbrev pub invariant-stages : goal.invariant-stages
invariant-stages l = record {
  writer : IsWriterOf l.step.board.now l.texts;
  grid : l.tracing.grid ≡ l.step.board.now.level;
  left : l.lines.items ++ course_lines l.detail l.number l.tick l.step.board.now l.last l.tracing.level l.tracing.course ≡ l.fn.lines.items ++ step_lines l.detail l.number l.tick (taken_step l.step.board.now l.step.input);
}

abbrev pub decreases-stages : goal.decreases-stages
decreases-stages l = length l.tracing.course.stages
