-- Two cells in which each object stands alike are equal.
use Rattle.pz_grid_laws.proofs.Common.{List, None, OnItsLayer, Option, Piece, Some, arith, cases_eq, ext_get_or, get_or, inl, inr, length, refl, standing, standing_off_layer, standing_on_layer, sym, ℕ, ◌∙◌, ◌≡◌}

-- a piece of one cell stands in the other
kept_place : (layers : List ℕ) (a b : List (Option Piece)) (layer : ℕ) (piece : Piece) → OnItsLayer layers a → OnItsLayer layers b → ((object : ℕ) → standing a object ≡ standing b object) → get_or a layer None ≡ Some piece → get_or b layer None ≡ Some piece
kept_place layers a b layer piece ha hb same e = by_place (get_or b layer None) refl where
  at : get_or layers piece.object 0 ≡ layer
  at = (rw e at (ha layer)).1

  here : standing b piece.object ≡ Some piece.heading
  here = sym (same piece.object) ∙ standing_on_layer layers a piece ha (rw at e)

  by_place : (v : Option Piece) → get_or b layer None ≡ v → v ≡ Some piece
  by_place None f = grind (arith, here, standing_off_layer layers b piece.object hb (rw (at, f) tt))
  by_place (Some other) f = elim (cases_eq other.object piece.object) [
    | inl one ↦ grind (arith, here, one, standing_on_layer layers b other hb (grind (arith, one, at, f)))
    | inr two ↦ grind (arith, here, standing_off_layer layers b piece.object hb (rw (at, f) two))
  ]

-- two lawful cells in which each object stands alike are equal
pub same_from_standing : (layers : List ℕ) (a b : List (Option Piece)) → length a ≡ length b → OnItsLayer layers a → OnItsLayer layers b → ((object : ℕ) → standing a object ≡ standing b object) → a ≡ b
same_from_standing layers a b long ha hb same = ext_get_or None a b long (λ layer within. by_place layer (get_or a layer None) refl (get_or b layer None) refl) where
  by_place : (layer : ℕ) (v : Option Piece) → get_or a layer None ≡ v → (w : Option Piece) → get_or b layer None ≡ w → get_or a layer None ≡ get_or b layer None
  by_place layer (Some piece) e w f = e ∙ sym (kept_place layers a b layer piece ha hb same e)
  by_place layer None e None f = e ∙ sym f
  by_place layer None e (Some piece) f = kept_place layers b a layer piece hb ha (λ o. sym (same o)) f ∙ sym f
