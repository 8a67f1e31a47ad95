use Rattle.std.proofs.Common.{arith}
use Rattle.std.specs.Int.{w128}
use Rattle.std.proofs.lemmas.Bool.{cases_eq}
use Rattle.std.proofs.lemmas.Grind.{common_steps}
use Rattle.std.proofs.lemmas.Nat.Bits.{bit_at_set_same, bit_at_set_other}
use Rattle.pz_planes.proofs.bits.with.Goals as goal

pub returns : goal.returns
returns c other = grind (arith, common_steps, cases_eq other c.args.at, bit_at_set_same w128 c.args.set c.args.at c.requires, bit_at_set_other w128 c.args.set c.args.at c.requires other)
