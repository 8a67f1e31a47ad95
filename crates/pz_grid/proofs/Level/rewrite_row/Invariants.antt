use Rattle.pz_grid.proofs.Common.{IsWidenedBy, SameSize, enumerate_from, fold, in_rewrite, list_any, names_object, rewritten_along, take, zip, ◌≡◌}
use Rattle.pz_grid.proofs.Level.rewrite_row.Given as goal

abbrev pub invariant-loop-index : goal.invariant-loop-index
invariant-loop-index l = record {
  so_far : in_rewrite l.self.grid l.changed ≡ fold (rewritten_along l.dir l.gap_at l.place) (in_rewrite l.initial.self.grid l.initial.changed) (take l.index (enumerate_from 0 (zip l.left l.right)));
  size : SameSize l.initial.self.grid l.self.grid;
  marks : IsWidenedBy l.initial.self l.self (λ object. list_any (names_object object) l.right);
}
