-- How many numbers below one pass a test, and whether one does.
use Rattle.pz_sheet.proofs.Common.{◌≡◌, ℕ, zero, suc, ◌+◌, ◌<◌, ◌≤◌, [], ◌∷◌, ◌++◌, Bool, true, false, ◌||◌, cond, arith, refl, subst, range_with_len, count_by, sum_by, list_any, map-id, list_any-append, length-range_with_len, map-range_with_len_more, sum_by-map-range_with_len_more}
use Rattle.std.proofs.lemmas.List.Sums.{count_by-le-length}

pub range_more : (a n : ℕ) → range_with_len a (n + 1) ≡ range_with_len a n ++ (a + n) ∷ []
range_more a n = simp map-id at (map-range_with_len_more (λ (k : ℕ). k) a n (a + n) refl)

-- a test of the numbers below one, and of one more
pub any_more : (p : ℕ → Bool) (n : ℕ) → list_any p (range_with_len 0 (n + 1)) ≡ (list_any p (range_with_len 0 n) || p n)
any_more p n = grind (arith, range_more 0 n, list_any-append p (range_with_len 0 n) ((0 + n) ∷ []))

pub sum_more : (f : ℕ → ℕ) (n : ℕ) → sum_by f (range_with_len 0 (n + 1)) ≡ sum_by f (range_with_len 0 n) + f n
sum_more f n = simp map-id at (sum_by-map-range_with_len_more f (λ (k : ℕ). k) 0 n n (omega arith))

pub count_more : (p : ℕ → Bool) (n : ℕ) → count_by p (range_with_len 0 (n + 1)) ≡ count_by p (range_with_len 0 n) + cond (p n) 1 0
count_more p n = sum_more (λ (k : ℕ). let m : ℕ = cond (p k) 1 0 in m) n

pub count_yes : (p : ℕ → Bool) (n : ℕ) → p n ≡ true → count_by p (range_with_len 0 (n + 1)) ≡ count_by p (range_with_len 0 n) + 1
count_yes p n e = grind (arith, count_more p n, e)

pub count_no : (p : ℕ → Bool) (n : ℕ) → p n ≡ false → count_by p (range_with_len 0 (n + 1)) ≡ count_by p (range_with_len 0 n)
count_no p n e = grind (arith, count_more p n, e)

pub count_within : (p : ℕ → Bool) (n : ℕ) → count_by p (range_with_len 0 n) ≤ n
count_within p n = omega (arith, count_by-le-length p (range_with_len 0 n), length-range_with_len 0 n)

-- a test that is stricter below an end passes no more often there
pub count_fewer : (p q : ℕ → Bool) (end : ℕ) → ((n : ℕ) → n < end → p n ≡ true → q n ≡ true) → count_by p (range_with_len 0 end) ≤ count_by q (range_with_len 0 end)
count_fewer p q zero h = omega arith
count_fewer p q (suc n) h =
    let fewer = count_fewer p q n (λ k below. h k (omega (arith, below))) in
    let more : n + 1 ≡ suc n = omega arith in
    subst (λ (k : ℕ). count_by p (range_with_len 0 k) ≤ count_by q (range_with_len 0 k)) more (grind (arith, fewer, count_more p n, count_more q n, h n (omega arith)))
