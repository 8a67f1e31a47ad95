-- A list with one element more.
use Rattle.std.proofs.Common.{◌≡◌, ℕ, zero, suc, ◌<◌, ◌⊎◌, inl, inr, List, [], ◌∷◌, ◌++◌, length, set, Some, refl, ap, arith}
use Rattle.std.specs.Prelude.{slice_get}

-- what is in a list stays where it is
pub still_there : {X : Type 0} (xs : List X) (y : X) (i : ℕ) (x : X) → slice_get xs i ≡ Some x → slice_get (xs ++ y ∷ []) i ≡ Some x
still_there [] y i x is = absurd cc
still_there (z ∷ xs) y zero x is = is
still_there (z ∷ xs) y (suc i) x is = still_there xs y i x is

-- the last one
pub last_there : {X : Type 0} (xs : List X) (y : X) → slice_get (xs ++ y ∷ []) (length xs) ≡ Some y
last_there [] y = refl
last_there (z ∷ xs) y = last_there xs y

-- what is there was there, or is the last one
pub there_before : {X : Type 0} (xs : List X) (y : X) (i : ℕ) (x : X) → slice_get (xs ++ y ∷ []) i ≡ Some x →
    (slice_get xs i ≡ Some x) ⊎ ((i ≡ length xs) × (y ≡ x))
there_before [] y zero x is = inr (refl, cc)
there_before [] y (suc i) x is = absurd cc
there_before (z ∷ xs) y zero x is = inl is
there_before (z ∷ xs) y (suc i) x is = elim (there_before xs y i x is) [
  | inl was ↦ inl was
  | inr last ↦ inr (omega (arith, last.0), last.1)
]

-- what is within a list is there
pub there : {X : Type 0} (xs : List X) (i : ℕ) → i < length xs → (x : X) × (slice_get xs i ≡ Some x)
there [] i within = absurd (omega (arith, within))
there (x ∷ xs) zero within = (x, refl)
there (x ∷ xs) (suc i) within = there xs i (omega (arith, within))

-- a list with another number at a place
pub set_here : (l : List ℕ) (i x : ℕ) → i < length l → slice_get (set l i x) i ≡ Some x
set_here [] i x within = absurd (omega (arith, within))
set_here (y ∷ l) zero x within = refl
set_here (y ∷ l) (suc i) x within = set_here l i x (omega (arith, within))

pub set_elsewhere : (l : List ℕ) (i j x : ℕ) → (i ≡ j → ⊥) → slice_get (set l i x) j ≡ slice_get l j
set_elsewhere [] i j x other = refl
set_elsewhere (y ∷ l) zero zero x other = absurd (other refl)
set_elsewhere (y ∷ l) zero (suc j) x other = refl
set_elsewhere (y ∷ l) (suc i) zero x other = refl
set_elsewhere (y ∷ l) (suc i) (suc j) x other = set_elsewhere l i j x (λ same. other (ap suc same))
