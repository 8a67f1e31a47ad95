use Rattle.pz_turn.proofs.Common.{◌≡◌, take, true, list_all, zip, keeps_player}
use Rattle.pz_turn.proofs.stepping.all_keep_players.Given as goal

abbrev pub invariant-loop-index : goal.invariant-loop-index
invariant-loop-index l = list_all (keeps_player l.players) (take l.index (zip l.before.grid.cells l.after.grid.cells)) ≡ true
