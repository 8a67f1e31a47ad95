use Rattle.std.proofs.Common.{◌≡◌, [], take, drop}
use Rattle.pz_source.specs.Layers.{name_line_at, lies_nowhere, entry_at}
use Rattle.pz_base.specs.Fault.{first_fault}
use Rattle.pz_source.proofs.layers.missing_layer.Given as goal

abbrev pub invariant-loop-place : goal.invariant-loop-place
invariant-loop-place l = first_fault name_line_at (lies_nowhere (entry_at l.table)) (take l.place l.objects) (drop l.place l.objects) ≡ first_fault name_line_at (lies_nowhere (entry_at l.table)) [] l.objects
