use Rattle.pz_sheet.proofs.Common.{◌≡◌, map, drop, pieces_of_cell, IsSound, pushed_place}
use Rattle.pz_sheet.proofs.pushing.push_cell.Given as goal

abbrev pub invariant-loop-player : goal.invariant-loop-player
invariant-loop-player g l = record {
  sound : IsSound l.layers l.cell;
  rest : map (pushed_place (drop l.player-index l.players) l.dir) (pieces_of_cell l.layers l.cell) ≡ map (pushed_place l.players l.dir) (pieces_of_cell l.layers l.initial.cell);
}
