use Rattle.pz_sheet.proofs.Common.{◌≡◌, take, true, list_all, holds_if}
use Rattle.pz_sheet.proofs.Sheet.all_hold.Given as goal

abbrev pub invariant-loop-index : goal.invariant-loop-index
invariant-loop-index g l = list_all (holds_if l.objects l.others) (take l.index l.self.grid.cells) ≡ true
