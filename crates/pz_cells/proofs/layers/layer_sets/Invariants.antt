use Rattle.pz_cells.proofs.Common.{◌≡◌, ◌<◌, ℕ, List, length, get_or, IsSetOf}
use Rattle.pz_cells.proofs.layers.layer_sets.Given as goal

abbrev pub invariant-loop-layer : goal.invariant-loop-layer
invariant-loop-layer l = record {
  deep : length l.sets.items ≡ l.layer;
  table : (k : ℕ) (other : List ℕ) → k < length l.sets.items → IsSetOf l.layers (get_or l.sets.items k other) k;
}
