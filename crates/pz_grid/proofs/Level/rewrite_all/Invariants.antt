use Rattle.pz_grid.proofs.Common.{IsWidenedBy, SameSize, fold, in_rewrite, places_object, rewritten_row, take, zip, ◌≡◌}
use Rattle.pz_grid.proofs.Level.rewrite_all.Given as goal

abbrev pub invariant-loop-index : goal.invariant-loop-index
invariant-loop-index l = record {
  so_far : in_rewrite l.self.grid l.changed ≡ fold (rewritten_row l.instance.scan) (in_rewrite l.initial.self.grid l.initial.changed) (take l.index (zip l.places (zip l.left l.right)));
  size : SameSize l.initial.self.grid l.self.grid;
  marks : IsWidenedBy l.initial.self l.self (places_object l.right);
}
