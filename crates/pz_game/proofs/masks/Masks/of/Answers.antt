use Rattle.pz_game.proofs.MaskLemmas.{more_at}
use Rattle.pz_game.proofs.masks.Masks.of.Goals as goal

pub loop-item-preserved : goal.loop-item-preserved
loop-item-preserved c low = more_at c.args.items.now c.loop-item.item-index _ c.loop-item.masks c.add_low.new.self c.loop-item-test.true (c.loop-item.invariant low) (c.add_low.ensures (low c.loop-item.item-index _ c.loop-item-test.true))
