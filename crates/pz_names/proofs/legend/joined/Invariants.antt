use Rattle.std.proofs.Common.{◌≡◌, [], length}
use Rattle.pz_names.specs.Legend.{joint_names}
use Rattle.pz_names.proofs.legend.joined.Given as goal

abbrev pub invariant-loop-name : goal.invariant-loop-name
invariant-loop-name l = joint_names l.joint l.parts.items l.rest ≡ joint_names l.joint [] l.names

abbrev pub decreases-loop-name : goal.decreases-loop-name
decreases-loop-name l = length l.rest
