use Rattle.pz_sheet.proofs.Common.{arith}
use Rattle.pz_sheet.proofs.Sheet.next_change.Goals as goal

pub learn_next-requires : goal.learn_next-requires
learn_next-requires g c = (omega arith, (c.requires.size, c.none.ensures _ _))
