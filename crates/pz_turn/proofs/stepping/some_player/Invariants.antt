use Rattle.pz_turn.proofs.Common.{◌≡◌, take, false, list_any}
use Rattle.pz_sheet.specs.Presence.{holds_one}
use Rattle.pz_turn.proofs.stepping.some_player.Given as goal

abbrev pub invariant-loop-index : goal.invariant-loop-index
invariant-loop-index l = list_any (holds_one l.players) (take l.index l.level.grid.cells) ≡ false
