use Rattle.std.proofs.Common.{◌-◌, arith}
use Rattle.pz_planes.proofs.BitLemmas.{bit_ahead, bit_left}
use Rattle.pz_planes.proofs.bits.next.Goals as goal

pub returns-then-is_empty : goal.returns-then-is_empty
returns-then-is_empty c number from below = grind (arith, bit_left c.args.set c.args.from number from, c.is_empty.ensures.none.0 c.if-is_empty.true (number - c.args.from))

pub returns-then-found-end : goal.returns-then-found-end
returns-then-found-end c = grind (arith, bit_ahead c.args.set c.args.from c.first.result, c.first.ensures.there, bit_left c.args.set c.args.from)

pub returns-else-found-end : goal.returns-else-found-end
returns-else-found-end c number from below = grind (arith, bit_left c.args.set c.args.from number from, c.first.ensures.least (number - c.args.from))
