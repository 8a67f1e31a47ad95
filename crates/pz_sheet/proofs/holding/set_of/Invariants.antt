use Rattle.pz_sheet.proofs.Common.{take, IsSetFor}
use Rattle.pz_sheet.proofs.holding.set_of.Given as goal

abbrev pub invariant-loop-object : goal.invariant-loop-object
invariant-loop-object l = IsSetFor (take l.object-index l.objects) l.set
