use Rattle.std.proofs.Common.{◌≡◌, [], take, drop}
use Rattle.pz_names.specs.Cycles.{reaches_itself}
use Rattle.pz_names.specs.Legend.{line_at}
use Rattle.pz_base.specs.Fault.{first_fault}
use Rattle.pz_names.proofs.cycles.circle.Given as goal

abbrev pub invariant-loop-place : goal.invariant-loop-place
invariant-loop-place l = first_fault line_at (reaches_itself l.first l.meanings) (take l.place l.definitions) (drop l.place l.definitions) ≡ first_fault line_at (reaches_itself l.first l.meanings) [] l.definitions
