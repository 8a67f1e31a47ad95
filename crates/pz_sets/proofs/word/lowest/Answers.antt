use Rattle.std.proofs.Common.{arith}
use Rattle.std.specs.Int.{w128}
use Rattle.std.proofs.lemmas.Nat.Bits.{bit_at-trailing_zeros}
use Rattle.pz_sets.proofs.word.lowest.Goals as goal

pub returns-clause-there : goal.returns-clause-there
returns-clause-there c = grind (arith, bit_at-trailing_zeros w128 c.args.word c.requires c.ranges.word.fits)

pub returns-clause-least : goal.returns-clause-least
returns-clause-least c bit low = grind (arith, bit_at-trailing_zeros w128 c.args.word c.requires c.ranges.word.fits)
