use Rattle.std.proofs.Common.{◌≡◌, ◌++◌, length}
unfoldable use Rattle.pz_stages.specs.Stages.{lines_from}
use Rattle.pz_stages.proofs.course.input_lines.Given as goal

abbrev pub invariant-steps : goal.invariant-steps
invariant-steps l = l.lines.items ++ lines_from l.detail l.number l.tick l.steps ≡ lines_from l.detail l.number 0 l.fn.steps

abbrev pub decreases-steps : goal.decreases-steps
decreases-steps l = length l.steps
