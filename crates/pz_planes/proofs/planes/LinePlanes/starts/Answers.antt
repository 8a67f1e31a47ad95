use Rattle.std.proofs.Common.{◌<◌, length, arith}
use Rattle.pz_planes.specs.Line.{step_to}
use Rattle.pz_planes.proofs.BitLemmas.{step_within}
use Rattle.pz_planes.proofs.planes.LinePlanes.starts.Goals as goal

pub loop-index-preserved : goal.loop-index-preserved
loop-index-preserved c at low may =
    let i = c.loop-index.index in
    let within : i < length c.args.patterns.now = omega (arith, c.loop-index-test.true, c.min-index-end.ensures) in
    grind (arith, c.both-starts.ensures at, c.loop-index.invariant at low may, c.from_which.ensures at low (omega (arith, may.within, within)), c.places-places.ensures (step_to c.args.way at i) (step_within 128 c.args.way at i low (omega (arith, may.within, within))) (rw c.index-patterns-index.is (may.each i c.index-patterns-index.result within)))
