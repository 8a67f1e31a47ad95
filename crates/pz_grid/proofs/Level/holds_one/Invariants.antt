use Rattle.pz_grid.proofs.Common.{cell_of, false, is_in, list_any, take, ◌≡◌}
use Rattle.pz_grid.proofs.Level.holds_one.Given as goal

abbrev pub invariant-loop-object : goal.invariant-loop-object
invariant-loop-object l = list_any (is_in (cell_of l.self.grid l.index)) (take l.object-index l.objects) ≡ false
