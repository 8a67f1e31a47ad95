use Rattle.std.proofs.Common.{take}
use Rattle.std.specs.List.{All}
use Rattle.pz_planes.specs.Planes.{IsMissingIn}
use Rattle.pz_planes.proofs.planes.LinePlanes.may_have_one_of.Given as goal

abbrev pub invariant-loop-object : goal.invariant-loop-object
invariant-loop-object l = All (IsMissingIn l.self l.line) (take l.object-index l.objects)
