use Rattle.pz_sheet.proofs.Common.{◌≡◌, take, true, list_all, enumerate_from, x_at, y_at, dir_of, holds_along}
use Rattle.pz_sheet.proofs.Sheet.rest_holds.Given as goal

abbrev pub invariant-loop-index : goal.invariant-loop-index
invariant-loop-index g l = list_all (holds_along l.self.grid (dir_of l.walk) (x_at l.walk.line.axis l.walk.line.number l.at) (y_at l.walk.line.axis l.walk.line.number l.at)) (take l.index (enumerate_from 0 l.patterns)) ≡ true
