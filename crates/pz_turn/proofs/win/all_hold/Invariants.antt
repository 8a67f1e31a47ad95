use Rattle.pz_turn.proofs.Common.{◌≡◌, take, true, list_all, line_holds}
use Rattle.pz_turn.proofs.win.all_hold.Given as goal

abbrev pub invariant-loop-line : goal.invariant-loop-line
invariant-loop-line l = list_all (line_holds l.game l.level.grid) (take l.line-index l.lines) ≡ true
