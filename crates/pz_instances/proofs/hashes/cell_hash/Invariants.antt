use Rattle.std.proofs.Common.{◌≡◌, length}
use Rattle.std.specs.Int.RustNames.{bit_xor}
use Rattle.pz_instances.specs.Hashes.{cell_hash}
use Rattle.pz_instances.proofs.hashes.cell_hash.Given as goal

abbrev pub invariant-loop-item : goal.invariant-loop-item
invariant-loop-item l = bit_xor l.hash (cell_hash l.rest) ≡ cell_hash l.fn.items

abbrev pub decreases-loop-item : goal.decreases-loop-item
decreases-loop-item l = length l.rest
