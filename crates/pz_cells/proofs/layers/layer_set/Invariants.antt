use Rattle.pz_cells.proofs.Common.{◌≡◌, ◌<◌, ◌≤◌, ℕ, false, nat_eq, get_or, member}
use Rattle.pz_cells.proofs.layers.layer_set.Given as goal

abbrev pub invariant-loop-object : goal.invariant-loop-object
invariant-loop-object l = record {
  below : (other : ℕ) → other < l.object → member l.set other ≡ nat_eq (get_or l.layers other 0) l.layer;
  above : (other : ℕ) → l.object ≤ other → member l.set other ≡ false;
}
