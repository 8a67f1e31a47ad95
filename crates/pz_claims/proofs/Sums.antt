-- Sums over the views of a table, of which a step changes one or two.
use Rattle.std.proofs.Common.{◌≡◌, ℕ, zero, suc, ◌+◌, ◌≤◌, List, [], ◌∷◌, ◌++◌, set, refl, sym, ap, arith}
use Rattle.std.specs.Prelude.{sum_by}
use Rattle.std.proofs.lemmas.List.Sums.{sum_by-cons, sum_by_push}
use mathlib.Core.Option.{some, some-ne-none, some-injective}
use lib.ListN.{get_elem?}
use Rattle.pz_claims.specs.declared.view.View.{View}

-- one view's part is within the sum
pub one_within_sum : (f : View → ℕ) (views : List View) (id : ℕ) (v : View) → get_elem? views id ≡ some v → f v ≤ sum_by f views
one_within_sum f [] id v at = absurd (some-ne-none v (sym at))
one_within_sum f (x ∷ xs) zero v at = let same : f x ≡ f v = ap f (some-injective x v at) in omega (arith, sum_by-cons f x xs)
one_within_sum f (x ∷ xs) (suc i) v at = let rest = one_within_sum f xs i v at in omega (arith, sum_by-cons f x xs)

module _ (f : View → ℕ) where
  pub sum_by-set : (views : List View) (id : ℕ) (v w : View) → get_elem? views id ≡ some v → sum_by f (set views id w) + f v ≡ sum_by f views + f w
  sum_by-set [] id v w at = absurd (some-ne-none v (sym at))
  sum_by-set (x ∷ xs) zero v w at = let same : f x ≡ f v = ap f (some-injective x v at) in omega (arith, sum_by-cons f x xs, sum_by-cons f w xs)
  sum_by-set (x ∷ xs) (suc i) v w at = let rest = sum_by-set xs i v w at in omega (arith, sum_by-cons f x xs, sum_by-cons f x (set xs i w))

  -- the maker's view is cut in two
  pub sum_by-split : (views : List View) (id : ℕ) (v left right : View) → get_elem? views id ≡ some v → sum_by f (set views id left ++ right ∷ []) + f v ≡ sum_by f views + f left + f right
  sum_by-split views id v left right at = omega (arith, sum_by-set views id v left at, sum_by_push f (set views id left) right)

  -- the maker's view takes in another
  pub sum_by-join : (views : List View) (id : ℕ) (v both : View) (other : ℕ) (w spent : View) → get_elem? views id ≡ some v → get_elem? (set views id both) other ≡ some w
      → sum_by f (set (set views id both) other spent) + f v + f w ≡ sum_by f views + f both + f spent
  sum_by-join views id v both other w spent at there = omega (arith, sum_by-set views id v both at, sum_by-set (set views id both) other w spent there)

  -- where g adds up to 0, and f is 0 where g is, f adds up to 0 too
  pub none_beside : (g : View → ℕ) → ((u : View) → g u ≡ 0 → f u ≡ 0) → (views : List View) → sum_by g views ≡ 0 → sum_by f views ≡ 0
  none_beside g h [] e = refl
  none_beside g h (x ∷ xs) e =
      let split = sum_by-cons g x xs in
      let here : f x ≡ 0 = h x (omega arith) in
      let rest : sum_by f xs ≡ 0 = none_beside g h xs (omega arith) in
      omega (arith, sum_by-cons f x xs)

  -- where g adds up to what it is at one view, and f is 0 where g is, f adds up to what it is at that view
  pub alone : (g : View → ℕ) → ((u : View) → g u ≡ 0 → f u ≡ 0) → (views : List View) (id : ℕ) (v : View) → get_elem? views id ≡ some v → sum_by g views ≡ g v → sum_by f views ≡ f v
  alone g h [] id v at e = absurd (some-ne-none v (sym at))
  alone g h (x ∷ xs) zero v at e =
      let is = some-injective x v at in
      let same : g x ≡ g v = ap g is in
      let here : f x ≡ f v = ap f is in
      let split = sum_by-cons g x xs in
      let rest : sum_by f xs ≡ 0 = none_beside g h xs (omega arith) in
      omega (arith, sum_by-cons f x xs)
  alone g h (x ∷ xs) (suc i) v at e =
      let split = sum_by-cons g x xs in
      let within : g v ≤ sum_by g xs = one_within_sum g xs i v at in
      let here : f x ≡ 0 = h x (omega arith) in
      let rest : sum_by f xs ≡ f v = alone g h xs i v at (omega arith) in
      omega (arith, sum_by-cons f x xs)

  pub sum_by-plus : (g : View → ℕ) (views : List View) → sum_by (λ u. f u + g u) views ≡ sum_by f views + sum_by g views
  sum_by-plus g [] = refl
  sum_by-plus g (x ∷ xs) = omega (arith, sum_by-plus g xs, sum_by-cons f x xs, sum_by-cons g x xs, sum_by-cons (λ u. f u + g u) x xs)
