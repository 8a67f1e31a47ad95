use Rattle.pz_cells.proofs.Common.{AreAlikeBetween}
use Rattle.pz_cells.proofs.differing.next_differing.Given as goal

abbrev pub invariant-loop-index : goal.invariant-loop-index
invariant-loop-index g l = AreAlikeBetween l.cells l.others l.from l.index

abbrev pub invariant-loop-index-else-are_still : goal.invariant-loop-index-else-are_still
invariant-loop-index-else-are_still g l = AreAlikeBetween l.cells l.others l.from l.index
