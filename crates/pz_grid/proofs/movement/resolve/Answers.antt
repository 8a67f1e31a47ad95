use Rattle.pz_grid.proofs.MoveLemmas.{widened_move}
use Rattle.pz_grid.proofs.movement.resolve.Goals as goal

pub returns-clause-widened : goal.returns-clause-widened
returns-clause-widened c =
    widened_move _ _ _ c.settle.ensures.marks c.still_all.ensures.stilled c.still_all.ensures.row_marks c.still_all.ensures.column_marks
