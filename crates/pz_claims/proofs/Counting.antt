-- How often a number stands in a list, and whether it is below a bound.
use Rattle.std.proofs.Common.{◌≡◌, ◌⊎◌, ℕ, zero, suc, ◌+◌, ◌-◌, ◌<◌, ◌≤◌, List, [], ◌∷◌, ◌++◌, length, get_or, cond, min, refl, inl, inr, arith}
use Rattle.std.specs.Prelude.{◌==◌}
use Rattle.std.proofs.lemmas.List.Sums.{sum_by-append, sum_by_push, get_or-le-sum_by}
use Rattle.std.proofs.lemmas.Bool.Decides.{nat_tests}
use Rattle.pz_claims.specs.Rule.{times, once_below, NoneTwice, Apart}

pub times-push : (x : ℕ) (ns : List ℕ) (k : ℕ) → times x (ns ++ k ∷ []) ≡ times x ns + cond (k == x) 1 0
times-push x ns k = sum_by_push (λ y. cond (y == x) 1 0) ns k

pub times-append : (x : ℕ) (ns ms : List ℕ) → times x (ns ++ ms) ≡ times x ns + times x ms
times-append x ns ms = sum_by-append (λ y. cond (y == x) 1 0) ns ms

one_here : (x : ℕ) → 1 ≤ cond (x == x) 1 0
one_here x = grind (arith, nat_tests)

-- a number of the list stands in it at least once
pub stands : (ns : List ℕ) (k d : ℕ) → k < length ns → 0 < times (get_or ns k d) ns
stands ns k d h = omega (arith, one_here (get_or ns k d), get_or-le-sum_by (λ y. cond (y == get_or ns k d) 1 0) ns k d h)

pub once_below-yes : (x n : ℕ) → x < n → once_below x n ≡ 1
once_below-yes x n h = grind (arith, nat_tests)

pub once_below-le : (x n : ℕ) → once_below x n ≤ 1
once_below-le x n = grind (arith, nat_tests)

pub is_below : (x n : ℕ) → 0 < once_below x n → x < n
is_below x n h = grind (arith, nat_tests)

-- one more number is below the bound, where it is below n too
pub once_below-next : (x k n : ℕ) → k < n → cond (k == x) 1 0 + once_below x (min k n) ≡ once_below x (min (k + 1) n)
once_below-next x k n h = grind (arith, nat_tests)

-- all numbers below n are below the bound
pub once_below-full : (x k n : ℕ) → n ≤ k → once_below x (min k n) ≡ once_below x (min (k + 1) n)
once_below-full x k n h = grind (arith, nat_tests)

-- where 0 is not below the lesser of two bounds, and the first is no greater than the second, the first is 0
pub nothing_below : (k n : ℕ) → once_below 0 (min k n) ≡ 0 → k - n ≡ 0 → k ≡ 0
nothing_below zero n h e = refl
nothing_below (suc k) zero h e = omega arith
nothing_below (suc k) (suc n) h e = absurd (let one = once_below-yes 0 (min (suc k) (suc n)) (omega arith) in omega arith)

-- two lists share no number if none stands twice in both together
pub parted : (xs ys : List ℕ) → NoneTwice (xs ++ ys) → Apart xs ys
parted xs ys h x = let a = h x in let b = times-append x xs ys in by_first (times x xs) (times x ys) (omega arith)
  where
    by_first : (a b : ℕ) → a + b ≤ 1 → (a ≡ 0) ⊎ (b ≡ 0)
    by_first zero b h = inl refl
    by_first (suc a) b h = inr (omega arith)
