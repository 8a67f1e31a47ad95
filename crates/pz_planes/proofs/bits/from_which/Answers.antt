use Rattle.std.proofs.Common.{arith}
use Rattle.pz_planes.proofs.BitLemmas.{bit_ahead, bit_back}
use Rattle.pz_planes.proofs.bits.from_which.Goals as goal

pub returns-in-Ahead : goal.returns-in-Ahead
returns-in-Ahead c at low room = grind (arith, bit_ahead c.args.set c.args.steps at, c.in-Ahead.is)

pub returns-in-Back : goal.returns-in-Back
returns-in-Back c at low room = grind (arith, bit_back c.args.set c.args.steps at, c.in-Back.is)
