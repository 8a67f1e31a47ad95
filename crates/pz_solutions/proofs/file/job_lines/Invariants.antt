use Rattle.std.proofs.Common.{take}
use Rattle.pz_solutions.specs.File.{AreLinesOf}
use Rattle.pz_solutions.proofs.file.job_lines.Given as goal

abbrev pub invariant-loop-number : goal.invariant-loop-number
invariant-loop-number l = AreLinesOf l.bounds 0 (take l.number l.job) l.lines.items
