use Rattle.std.proofs.Common.{arith}
use Rattle.pz_planes.proofs.planes.LinePlanes.places.Goals as goal

pub loop-item-init : goal.loop-item-init
loop-item-init c at low may = c.all-places.ensures at low

pub item_places-requires : goal.item_places-requires
item_places-requires c = grind (arith, c.requires.of_game c.loop-item.item-index, c.items-item-items.ensures)

pub loop-item-preserved : goal.loop-item-preserved
loop-item-preserved c at low may = grind (arith, c.both-places.ensures at, c.loop-item.invariant at low may, c.item_places.ensures at low, may c.loop-item.item-index, c.items-item-items.ensures)

pub returns : goal.returns
returns c = c.loop-item.invariant
