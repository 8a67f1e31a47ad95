use Rattle.std.specs.Int.{w128}
use Rattle.std.proofs.lemmas.Nat.Bits.{bit_at-trailing_zeros}
use Rattle.pz_sets.proofs.WordLemmas.{in_word-from}
use Rattle.pz_planes.proofs.bits.first.Goals as goal

pub returns-clause-there : goal.returns-clause-there
returns-clause-there c = in_word-from c.args.set _ 1 (bit_at-trailing_zeros w128 c.args.set c.requires c.ranges.set.fits).1

pub returns-clause-least : goal.returns-clause-least
returns-clause-least c at before = in_word-from c.args.set at 0 ((bit_at-trailing_zeros w128 c.args.set c.requires c.ranges.set.fits).2 at before)
