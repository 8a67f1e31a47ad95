-- Lists made piece by piece, and folds over them.
use Rattle.std.proofs.Common.{[], List, ap, arith, inl, inr, length, map, refl, suc, zero, ℕ, ◌*◌, ◌++◌, ◌+◌, ◌-◌, ◌<◌, ◌∙◌, ◌∷◌, ◌≡◌, ◌≤◌}
use Rattle.std.proofs.lemmas.Bool.{cases_lt}
use Rattle.std.proofs.lemmas.Grind.{flat_map-append}
use Rattle.std.proofs.lemmas.List.{append-nil, append_assoc, length-append}
use Rattle.std.proofs.lemmas.List.FromFn.{map-range_with_len_more}
use Rattle.std.proofs.lemmas.List.Sums.{fold-append}
use Rattle.std.specs.List.{flat_map, range_with_len}
use Rattle.std.specs.Prelude.{fold}
use Rattle.pz_sheet.proofs.CountLemmas.{range_more}

-- a list made piece by piece for each number below n
abbrev pub gather : {X : Type 0} → (ℕ → List X) → ℕ → List X
gather h n = flat_map h (range_with_len 0 n)

pub gather_more : {X : Type 0} (h : ℕ → List X) (n : ℕ) → gather h (n + 1) ≡ gather h n ++ h n
gather_more h n = grind (arith, range_more 0 n, flat_map-append h (range_with_len 0 n) ((0 + n) ∷ []), append-nil (h n))

-- one more of a fold over numbered items, and of a fold over pieces
pub fold_map_more : {A B : Type 0} (f : B → A → B) (start : B) (h : ℕ → A) (n : ℕ) → fold f start (map h (range_with_len 0 (n + 1))) ≡ f (fold f start (map h (range_with_len 0 n))) (h n)
fold_map_more f start h n = grind (arith, map-range_with_len_more h 0 n n, fold-append f start (map h (range_with_len 0 n)) (h n ∷ []))

pub fold_gather_more : {A B : Type 0} (f : B → A → B) (start : B) (h : ℕ → List A) (n : ℕ) → fold f start (gather h (n + 1)) ≡ fold f (fold f start (gather h n)) (h n)
fold_gather_more f start h n = rw (gather_more h n, fold-append)

-- steps that leave something as it is
pub steps_stay : {X : Type 0} (so_far : ℕ → X) (step : ℕ → X → X) (here : X) (from end : ℕ) → from ≤ end → ((k : ℕ) → so_far (k + 1) ≡ step k (so_far k)) → so_far from ≡ here → ((k : ℕ) → from ≤ k → k < end → step k here ≡ here) → so_far end ≡ here
steps_stay so_far step here from zero low more is stays = ap so_far (omega arith) ∙ is
steps_stay so_far step here from (suc n) low more is stays = elim (cases_lt n from) [
  | inl last ↦ ap so_far (omega arith) ∙ is
  | inr past ↦ ap so_far (omega arith) ∙ more n ∙ ap (step n) (steps_stay so_far step here from n past more is (λ k late below. stays k late (omega arith))) ∙ stays n past (omega arith)
]

-- what is gathered grows by nothing where there is nothing
pub gather_skip : {X : Type 0} (h : ℕ → List X) (n m : ℕ) → n ≤ m → ((k : ℕ) → n ≤ k → k < m → h k ≡ []) → gather h m ≡ gather h n
gather_skip {X} h n m low none = steps_stay (gather h) (λ k xs. xs ++ h k) (gather h n) n m low (gather_more h) refl (λ k late below. ap (λ (ys : List X). gather h n ++ ys) (none k late below) ∙ append-nil (gather h n))

pub gather_none : {X : Type 0} (h : ℕ → List X) → ((k : ℕ) → h k ≡ []) → (n : ℕ) → gather h n ≡ []
gather_none h none n = gather_skip h 0 n (omega arith) (λ k _ _. none k)

-- with more numbers the list is no shorter
gather_longer : {X : Type 0} (h : ℕ → List X) (n k : ℕ) → length (gather h n) ≤ length (gather h (n + k))
gather_longer h n zero = grind arith
gather_longer h n (suc k) = grind (arith, gather_longer h n k, gather_more h (n + k), length-append (gather h (n + k)) (h (n + k)))

-- pieces of at most so many elements
pub gather_few : {X : Type 0} (h : ℕ → List X) (most : ℕ) → ((k : ℕ) → length (h k) ≤ most) → (n : ℕ) → length (gather h n) ≤ n * most
gather_few h most few zero = omega arith
gather_few h most few (suc n) = grind (arith, gather_few h most few n, few n, gather_more h n, length-append (gather h n) (h n))

-- one more piece is added
pub gather_step : {X : Type 0} (h : ℕ → List X) (n : ℕ) (before items next : List X) → items ≡ before ++ gather h n → next ≡ items ++ h n → next ≡ before ++ gather h (n + 1)
gather_step h n before items next e f = grind (arith, e, f, append_assoc before (gather h n) (h n), gather_more h n)

-- what is too long with one more piece is too long in the end
pub gather_too_long : {X : Type 0} (h : ℕ → List X) (n end limit : ℕ) (before items : List X) → items ≡ before ++ gather h n → n < end → limit < length (items ++ h n) → limit < length (before ++ gather h end)
gather_too_long h n end limit before items e within long =
    grind (arith, e, long, gather_step h n before items (items ++ h n) e refl, gather_longer h (n + 1) (end - (n + 1)), length-append before (gather h (n + 1)), length-append before (gather h end))
