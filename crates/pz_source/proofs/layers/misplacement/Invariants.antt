use Rattle.std.proofs.Common.{◌≡◌, [], take, drop}
use Rattle.pz_source.specs.Layers.{name_line_at, misplaces}
use Rattle.pz_base.specs.Fault.{first_fault}
use Rattle.pz_source.proofs.layers.misplacement.Given as goal

abbrev pub invariant-loop-place : goal.invariant-loop-place
invariant-loop-place l = first_fault name_line_at (misplaces l.names l.values) (take l.place l.layers) (drop l.place l.layers) ≡ first_fault name_line_at (misplaces l.names l.values) [] l.layers
