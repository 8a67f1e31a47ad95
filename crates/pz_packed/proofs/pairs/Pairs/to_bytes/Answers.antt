use Rattle.pz_packed.proofs.Listing.{take_next}
use Rattle.pz_packed.proofs.pairs.Pairs.to_bytes.Goals as goal

pub loop-index-preserved : goal.loop-index-preserved
loop-index-preserved c = cc (c.in_ok-push.ensures.items, take_next c.args.self.now c.loop-index.index c.get.result c.get.ensures.number)
