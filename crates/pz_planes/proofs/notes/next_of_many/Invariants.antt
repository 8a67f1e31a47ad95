use Rattle.pz_planes.specs.Notes.{HaveNoneBetween}
use Rattle.pz_planes.proofs.notes.next_of_many.Given as goal

abbrev pub invariant-loop-line : goal.invariant-loop-line
invariant-loop-line l = HaveNoneBetween l.sets l.from l.line
