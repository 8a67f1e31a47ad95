use Rattle.pz_cells.proofs.Common.{filled_cell}
use Rattle.pz_cells.proofs.ListLemmas.{AreWalked, Turns}
use Rattle.pz_cells.proofs.drawing.fill_cells.Given as goal

abbrev pub invariant-loop-index : goal.invariant-loop-index
invariant-loop-index g l = AreWalked (Turns l.layers (filled_cell l.layer l.piece)) l.initial.cells.items l.cells.items l.index
