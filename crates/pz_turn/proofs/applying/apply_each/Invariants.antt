use Rattle.pz_turn.proofs.Common.{◌≡◌, ◌∷◌, [], false, map, fold, drop, Place, SameSize, in_rewrite, applied_at}
use Rattle.pz_turn.proofs.applying.apply_each.Given as goal

abbrev pub invariant-loop-place : goal.invariant-loop-place
invariant-loop-place l = record {
  rest : fold (applied_at l.instance) (in_rewrite l.level.grid l.changed) (map (λ (place : Place). place ∷ []) (drop l.place-index l.places)) ≡ fold (applied_at l.instance) (in_rewrite l.fn.level.grid false) (map (λ (place : Place). place ∷ []) l.places);
  size : SameSize l.fn.level.grid l.level.grid;
}
