use Rattle.std.proofs.Common.{arith}
use Rattle.std.specs.Int.{w128, bit_not}
use Rattle.std.proofs.lemmas.Nat.Bits.{bit_at_not, bit_at-lt}
use Rattle.pz_sets.proofs.WordLemmas.{in_word-and}
use Rattle.pz_sets.proofs.word.minus.Goals as goal

pub returns : goal.returns
returns c bit low = grind (arith, in_word-and c.args.word (bit_not w128 c.args.removed) bit, bit_at_not w128 c.args.removed bit c.ranges.removed.fits low, bit_at-lt c.args.removed bit)
