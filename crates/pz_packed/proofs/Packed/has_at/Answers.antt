use Rattle.std.proofs.Common.{arith}
use Rattle.pz_packed.proofs.Listing.{agrees, differs}
use Rattle.pz_packed.proofs.Packed.has_at.Goals as goal

pub returns-then-get-numbers : goal.returns-then-get-numbers
returns-then-get-numbers c = (λ t. cc, λ same. absurd (differs c.args.self.now c.args.numbers.now c.args.from c.loop-index.index c.get.result c.get.ensures (omega arith) c.if-get-numbers.true same))

pub loop-index-preserved : goal.loop-index-preserved
loop-index-preserved c = agrees c.args.self.now c.args.numbers.now c.args.from c.loop-index.index c.get.result c.get.ensures (omega arith) c.if-get-numbers.false c.loop-index.invariant
