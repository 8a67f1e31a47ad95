use Rattle.std.specs.Int.{w128, bit_at, bit_not}
use Rattle.std.proofs.lemmas.Nat.Bits.{bit_at_not, bit_at-lt}
use Rattle.pz_sets.proofs.WordLemmas.{flip_bit}
use Rattle.pz_planes.proofs.bits.others.Goals as goal

pub returns : goal.returns
returns c at low = flip_bit (bit_at c.args.set at) (bit_at (bit_not w128 c.args.set) at) (bit_at_not w128 c.args.set at c.ranges.set.fits low) (bit_at-lt c.args.set at)
