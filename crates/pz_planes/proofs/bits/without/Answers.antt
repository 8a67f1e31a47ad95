use Rattle.std.proofs.Common.{arith}
use Rattle.std.specs.Int.{w128}
use Rattle.std.proofs.lemmas.Bool.{cases_eq}
use Rattle.std.proofs.lemmas.Grind.{common_steps}
use Rattle.std.proofs.lemmas.Nat.{and_le_l}
use Rattle.std.proofs.lemmas.Nat.Bits.{bit_at_clear_same, bit_at_clear_other}
use Rattle.pz_planes.proofs.bits.without.Goals as goal

pub returns-clause-others : goal.returns-clause-others
returns-clause-others c other low = grind (arith, common_steps, cases_eq other c.args.at, bit_at_clear_same w128 c.args.set c.args.at c.requires.low, bit_at_clear_other w128 c.args.set c.args.at c.requires.low other low)

pub returns-clause-fewer : goal.returns-clause-fewer
returns-clause-fewer c = grind (arith, and_le_l, bit_at_clear_same w128 c.args.set c.args.at c.requires.low, c.requires.there)
