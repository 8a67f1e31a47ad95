use Rattle.std.proofs.Common.{◌≡◌, [], take, drop}
use Rattle.pz_names.specs.Kinds.{mixes, kind_in}
use Rattle.pz_names.specs.Legend.{line_at}
use Rattle.pz_base.specs.Fault.{first_fault}
use Rattle.pz_names.proofs.kinds.mixture.Given as goal

abbrev pub invariant-loop-definition : goal.invariant-loop-definition
invariant-loop-definition l = first_fault line_at (mixes (kind_in l.names l.values)) (take l.definition-index l.definitions) (drop l.definition-index l.definitions) ≡ first_fault line_at (mixes (kind_in l.names l.values)) [] l.definitions
