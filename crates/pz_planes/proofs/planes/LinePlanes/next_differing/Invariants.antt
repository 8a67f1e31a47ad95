use Rattle.std.proofs.Common.{◌*◌}
use Rattle.pz_planes.specs.Planes.{AreSameBetween}
use Rattle.pz_planes.proofs.planes.LinePlanes.next_differing.Given as goal

abbrev pub invariant-loop-line : goal.invariant-loop-line
invariant-loop-line l = AreSameBetween l.self l.other l.long l.from (l.line * l.long)
