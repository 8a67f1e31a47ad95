use Rattle.pz_grid.proofs.Common.{cell_of, is_in, list_all, take, true, ◌≡◌}
use Rattle.pz_grid.proofs.Level.holds_each.Given as goal

abbrev pub invariant-loop-object : goal.invariant-loop-object
invariant-loop-object l = list_all (is_in (cell_of l.self.grid l.index)) (take l.object-index l.objects) ≡ true
