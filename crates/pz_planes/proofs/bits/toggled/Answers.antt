use Rattle.std.proofs.Common.{◌*◌, ◌%◌, ◌^◌, arith}
use Rattle.std.proofs.lemmas.Bool.{cases_eq}
use Rattle.std.proofs.lemmas.Grind.{common_steps}
use Rattle.std.proofs.lemmas.Nat.{one_shl}
use Rattle.std.proofs.lemmas.Nat.Bits.{bit_at-pow_same, bit_at-pow_other}
use Rattle.pz_sets.proofs.WordLemmas.{in_word-xor}
use Rattle.pz_planes.proofs.bits.toggled.Goals as goal

pub returns : goal.returns
returns c other = grind (arith, common_steps, in_word-xor c.args.set (1 * 2 ^ c.args.at % 340282366920938463463374607431768211456) other, one_shl c.args.at 128 c.requires, cases_eq other c.args.at, bit_at-pow_same c.args.at, bit_at-pow_other c.args.at other)
