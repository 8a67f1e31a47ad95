-- Rewritten cells are cells of the game.
use Rattle.pz_grid_laws.proofs.Common.{AreOf, IsCell, IsOnLayer, Item, List, None, Option, Piece, Some, [], arith, cases_lt, cond, false, forbids_object, get_or, get_or-map-range_with_len, get_or_past, inl, inr, kept, length, length-map-range_with_len, names_object, placed_is, placed_on, refl, piece_after, rewritten_cell, rewritten_place, tells_of, true, ℕ, ◌||◌, ◌∙◌, ◌≡◌}

kept_on_layer : (layers : List ℕ) (layer : ℕ) (left right : List Item) (here : Option Piece) → IsOnLayer layers layer here → IsOnLayer layers layer (kept left right here)
kept_on_layer layers layer left right None h = h
kept_on_layer layers layer left right (Some piece) h =
    elim (names_object piece.object left || forbids_object piece.object right) as (λ b. IsOnLayer layers layer (cond b None (Some piece))) [ true ↦ tt | false ↦ h ]

-- a rewritten place has an object of its layer
pub rewritten_on_layer : (layers : List ℕ) (layer : ℕ) (left right : List Item) (here : Option Piece) → AreOf layers right → IsOnLayer layers layer here → IsOnLayer layers layer (rewritten_place left right layer here)
rewritten_on_layer layers layer left right here are h = by_placed (placed_on layer right) refl where
  by_placed : (placed : Option Item) → placed_on layer right ≡ placed → IsOnLayer layers layer (piece_after placed (tells_of layer left) left right here)
  by_placed None e = kept_on_layer layers layer left right here h
  by_placed (Some item) e = let it = placed_is layers layer right item are e in (it.0, it.1)

-- a rewritten cell is a cell of the game
pub rewritten_is_cell : (depth : ℕ) (layers : List ℕ) (left right : List Item) (cell : List (Option Piece)) → AreOf layers right → IsCell depth layers cell → IsCell depth layers (rewritten_cell left right cell)
rewritten_is_cell depth layers left right cell are h =
    let f = λ (k : ℕ). rewritten_place left right k (get_or cell k None) in
    record {
      deep = length-map-range_with_len f 0 (length cell) ∙ h.deep;
      on_layers = λ layer. elim (cases_lt layer (length cell)) [
        | inl within ↦ rw (get_or-map-range_with_len f 0 (length cell) layer layer None within (omega arith)) (rewritten_on_layer layers layer left right (get_or cell layer None) are (h.on_layers layer))
        | inr past ↦ rw (get_or_past (rewritten_cell left right cell) layer None (omega (arith, length-map-range_with_len f 0 (length cell)))) tt
      ];
    }
