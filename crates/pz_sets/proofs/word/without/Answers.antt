use Rattle.std.proofs.Common.{arith}
use Rattle.std.specs.Int.{w128}
use Rattle.std.proofs.lemmas.Grind.{common_steps}
use Rattle.std.proofs.lemmas.Nat.Bits.{bit_at_clear_same, bit_at_clear_other}
use Rattle.pz_sets.proofs.word.without.Goals as goal

pub returns : goal.returns
returns c other low = grind (arith, common_steps, bit_at_clear_same w128 c.args.word c.args.bit c.requires, bit_at_clear_other w128 c.args.word c.args.bit c.requires other low)
