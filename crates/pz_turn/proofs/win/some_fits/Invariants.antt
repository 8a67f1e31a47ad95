use Rattle.pz_turn.proofs.Common.{◌≡◌, take, false, list_any, fits_both}
use Rattle.pz_turn.proofs.win.some_fits.Given as goal

abbrev pub invariant-loop-index : goal.invariant-loop-index
invariant-loop-index l = list_any (fits_both l.game l.line) (take l.index l.level.grid.cells) ≡ false
