use Rattle.std.proofs.Common.{arith}
use Rattle.pz_planes.proofs.DifferingLemmas.{same_more, word_tells}
use Rattle.pz_planes.proofs.planes.LinePlanes.differing.Goals as goal

pub loop-object-preserved : goal.loop-object-preserved
loop-object-preserved c at low =
    let sets = c.args.self.now in
    let other = c.args.other.now in
    let object = c.loop-object.object in
    let number = c.index-number.result in
    let here = word_tells sets object c.args.line number c.index-here.result.now at low in
    let there = word_tells other object c.args.line number c.index-there.result.now at low in
    same_more object sets other c.args.line at _ _ _ (c.loop-object.invariant at low)
    (grind (arith, c.differing.ensures at, here, there, c.index-here.ensures, c.index-there.ensures, c.self.view_is, c.other.view_is, c.index-number.ensures, c.requires.room, c.self.invariant.covers, c.other.invariant.covers)) (c.either-places.ensures at)
