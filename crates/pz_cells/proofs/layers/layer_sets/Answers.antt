use Rattle.pz_cells.proofs.Common.{◌≡◌, ◌<◌, ◌+◌, ◌++◌, ◌∷◌, [], ℕ, List, length, get_or, arith, ap, ◌∙◌, IsSetOf}
use Rattle.std.proofs.lemmas.List.{get_or_append_left, get_or_push, length_push}
use Rattle.pz_cells.proofs.layers.layer_sets.Goals as goal

-- the sets of the layers up to one, and its own
one_more : (layers set : List ℕ) (sets now : List (List ℕ)) (layer : ℕ) → now ≡ sets ++ set ∷ [] → length sets ≡ layer → ((k : ℕ) (other : List ℕ) → k < length sets → IsSetOf layers (get_or sets k other) k) → IsSetOf layers set layer → (k : ℕ) (other : List ℕ) → k < length now → IsSetOf layers (get_or now k other) k
one_more layers set sets now layer is long table here k other within object low = grind (arith, is, get_or_append_left sets (set ∷ []) other k, table k other, length_push sets set, get_or_push sets set other k, here object low)

pub loop-layer-preserved : goal.loop-layer-preserved
loop-layer-preserved c = record {
  deep = ap (λ (sets : List (List ℕ)). length sets) c.in_ok-push.ensures.items ∙ length_push c.loop-layer.sets.items c.layer_set.result ∙ ap (λ (k : ℕ). k + 1) c.loop-layer.invariant.deep;
  table = one_more c.args.layers.now c.layer_set.result c.loop-layer.sets.items c.push.new.self.items c.loop-layer.layer c.in_ok-push.ensures.items c.loop-layer.invariant.deep c.loop-layer.invariant.table c.layer_set.ensures;
}
