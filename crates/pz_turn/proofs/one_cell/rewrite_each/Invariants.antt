use Rattle.pz_turn.proofs.Common.{◌≡◌, false, fold, drop, SameSize, in_rewrite, one_rewritten}
use Rattle.pz_turn.proofs.one_cell.rewrite_each.Given as goal

abbrev pub invariant-loop-place : goal.invariant-loop-place
invariant-loop-place l = record {
  rest : fold (one_rewritten l.dir l.left l.right) (in_rewrite l.level.grid l.changed) (drop l.place-index l.places) ≡ fold (one_rewritten l.dir l.left l.right) (in_rewrite l.fn.level.grid false) l.places;
  size : SameSize l.fn.level.grid l.level.grid;
}
