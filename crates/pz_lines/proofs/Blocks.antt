-- Two blocks of bytes, compared at once.
use Rattle.std.proofs.Common.{◌≡◌, ℕ, not, eqb, List, [], ◌∷◌, length, refl, ap₂, inl, inr, arith}
use Rattle.std.specs.Simd.Lanes.{mask_l, zip2}
use Rattle.std.proofs.lemmas.Bool.{cases_Bool, eqb-true}

-- vectors are alike if no lane differs
pub alike : (xs ys : List ℕ) → length xs ≡ length ys → mask_l (zip2 (λ a b. not (eqb a b)) xs ys) ≡ 0 → xs ≡ ys
alike [] [] same none = refl
alike [] (y ∷ ys) same none = absurd (omega arith)
alike (x ∷ xs) [] same none = absurd (omega arith)
alike (x ∷ xs) (y ∷ ys) same none = elim (cases_Bool (eqb x y)) [
  | inl is ↦ ap₂ (λ z zs. z ∷ zs) (eqb-true x y is) (alike xs ys (omega arith) (let rest = rw is at none in omega arith))
  | inr is ↦ absurd (let some = rw is at none in omega arith)
]
