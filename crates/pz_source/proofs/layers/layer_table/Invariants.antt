use Rattle.std.proofs.Common.{◌≡◌, ◌<◌, ℕ, drop}
use Rattle.pz_source.specs.Layers.{entry_at, holds, last_layer, layer_of}
use Rattle.pz_source.proofs.layers.layer_table.Given as goal

abbrev pub invariant-loop-number : goal.invariant-loop-number
invariant-loop-number l =
    (k : ℕ) → k < l.count → last_layer (holds l.names l.values) l.number (entry_at l.entries k) (drop l.number l.layers) k ≡ layer_of (holds l.names l.values) l.layers k
