use Rattle.std.proofs.Common.{◌≡◌, [], take, drop}
use Rattle.pz_names.specs.Legend.{line_at, speaks_of_unknown}
use Rattle.pz_base.specs.Fault.{first_fault}
use Rattle.pz_names.proofs.legend.unknown_part.Given as goal

abbrev pub invariant-loop-definition : goal.invariant-loop-definition
invariant-loop-definition l = first_fault line_at (speaks_of_unknown l.names) (take l.definition-index l.definitions) (drop l.definition-index l.definitions) ≡ first_fault line_at (speaks_of_unknown l.names) [] l.definitions
