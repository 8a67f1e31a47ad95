use Rattle.std.proofs.Common.{◌*◌}
use Rattle.pz_planes.specs.Planes.{AreChanged, toggled_note}
use Rattle.pz_planes.proofs.ToggleLemmas.{below, differ}
use Rattle.pz_planes.proofs.planes.Planes.note.Given as goal

abbrev pub invariant-loop-index : goal.invariant-loop-index
invariant-loop-index l = AreChanged l.initial.self l.self l.x l.y (λ object was. toggled_note (below (l.index * 128) (differ l.before l.after) object) was)
