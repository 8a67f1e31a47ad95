use Rattle.pz_sheet.proofs.Common.{◌≡◌, take, false, list_any, holds_both}
use Rattle.pz_sheet.proofs.Sheet.some_holds.Given as goal

abbrev pub invariant-loop-index : goal.invariant-loop-index
invariant-loop-index g l = list_any (holds_both l.objects l.others) (take l.index l.self.grid.cells) ≡ false
