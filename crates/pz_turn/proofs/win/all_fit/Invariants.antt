use Rattle.pz_turn.proofs.Common.{◌≡◌, take, true, list_all, fits_if}
use Rattle.pz_turn.proofs.win.all_fit.Given as goal

abbrev pub invariant-loop-index : goal.invariant-loop-index
invariant-loop-index l = list_all (fits_if l.game l.line) (take l.index l.level.grid.cells) ≡ true
