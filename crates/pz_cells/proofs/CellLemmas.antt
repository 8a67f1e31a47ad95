-- What a cell says of an object is what stands on the layer of the object.
use Rattle.pz_cells.proofs.Common.{◌≡◌, ◌≢◌, ℕ, suc, zero, List, [], ◌∷◌, Option, Some, None, get_or, arith, refl, IfSome, Piece, standing, IsOnLayer}

-- each object of a cell stands on its layer
abbrev pub OnItsLayer : List ℕ → List (Option Piece) → Type 0
OnItsLayer layers cell = (layer : ℕ) → IsOnLayer layers layer (get_or cell layer None)

-- an object that no place has
pub standing_none : (cell : List (Option Piece)) (object : ℕ) → ((k : ℕ) → IfSome (get_or cell k None) (λ p. p.object ≢ object)) → standing cell object ≡ None
standing_none [] object h = refl
standing_none (place ∷ places) object h = grind (arith, h 0, standing_none places object (λ k. h (suc k)))

-- an object that one place alone has
pub standing_found : (cell : List (Option Piece)) (object k : ℕ) (piece : Piece) → get_or cell k None ≡ Some piece → piece.object ≡ object → ((j : ℕ) → IfSome (get_or cell j None) (λ p. p.object ≡ object → j ≡ k)) → standing cell object ≡ Some piece.heading
standing_found [] object k piece e f h = cc
standing_found (place ∷ places) object zero piece e f h = grind (arith, e, f)
standing_found (place ∷ places) object (suc k) piece e f h = grind (arith, h 0, standing_found places object k piece e f (λ j. grind (arith, h (suc j))))

-- what stands on its layer is found there
pub standing_on_layer : (layers : List ℕ) (cell : List (Option Piece)) (piece : Piece) → OnItsLayer layers cell → get_or cell (get_or layers piece.object 0) None ≡ Some piece → standing cell piece.object ≡ Some piece.heading
standing_on_layer layers cell piece h e = standing_found cell piece.object (get_or layers piece.object 0) piece e refl (λ j. grind (arith, h j))

-- an object is nowhere but on its layer
pub standing_off_layer : (layers : List ℕ) (cell : List (Option Piece)) (object : ℕ) → OnItsLayer layers cell → IfSome (get_or cell (get_or layers object 0) None) (λ p. p.object ≢ object) → standing cell object ≡ None
standing_off_layer layers cell object h absent = standing_none cell object (λ k. grind (arith, h k))
