-- The first of the elements that are the same.
use Rattle.std.proofs.Common.{◌≡◌, Bool, true, false, not, ◌||◌, List, [], ◌∷◌, ◌++◌, filter, fold, refl, ap, sym, ◌∙◌, ⊎_elim}
use Rattle.std.proofs.lemmas.Bool.{or_cases, or_left, or_right, or_parts, or_from, cases_Bool, not_from_true, not_from_false, cond-true, cond-false, false≢true, false_from_ne_true}
use Rattle.std.proofs.lemmas.List.{append_assoc, append-nil}
use Rattle.std.specs.List.{list_any}
use Rattle.pz_base.specs.Lists.{firsts, with_new}

abbrev pub IsTransitive : {X : Type 0} → (X → X → Bool) → Type 0
IsTransitive {X} same = (a b c : X) → same a b ≡ true → same b c ≡ true → same a c ≡ true

pub filter-append : {X : Type 0} (p : X → Bool) (xs ys : List X) → filter p (xs ++ ys) ≡ filter p xs ++ filter p ys
filter-append p [] ys = refl
filter-append p (x ∷ xs) ys =
    ⊎_elim
    (λ e. cond-true (p x) _ _ e ∙ ap (λ l. x ∷ l) (filter-append p xs ys) ∙ sym (ap (λ l. l ++ filter p ys) (cond-true (p x) (x ∷ filter p xs) (filter p xs) e)))
    (λ e. cond-false (p x) _ _ e ∙ filter-append p xs ys ∙ sym (ap (λ l. l ++ filter p ys) (cond-false (p x) (x ∷ filter p xs) (filter p xs) e)))
    (cases_Bool (p x))

-- a test that finds none keeps finding none in a part
pub list_any-filter_none : {X : Type 0} (p q : X → Bool) (xs : List X) → list_any p xs ≡ false → list_any p (filter q xs) ≡ false
list_any-filter_none p q [] h = refl
list_any-filter_none p q (x ∷ xs) h =
    let r = or_parts (p x) (list_any p xs) h in
    ⊎_elim
    (λ e. ap (list_any p) (cond-true (q x) (x ∷ filter q xs) (filter q xs) e) ∙ or_from (p x) (list_any p (filter q xs)) r.0 (list_any-filter_none p q xs r.1))
    (λ e. ap (list_any p) (cond-false (q x) (x ∷ filter q xs) (filter q xs) e) ∙ list_any-filter_none p q xs r.1)
    (cases_Bool (q x))

-- what is the same as y is found in the part, or left out since it is the same as x
pub list_any-filter_same : {X : Type 0} (same : X → X → Bool) → IsTransitive same → (x y : X) (xs : List X) → list_any (λ k. same k y) xs ≡ true → same x y ≡ false → list_any (λ k. same k y) (filter (λ z. not (same x z)) xs) ≡ true
list_any-filter_same same trans x y [] h n = absurd (false≢true h)
list_any-filter_same {X} same trans x y (k ∷ ks) h n =
    let test : X → Bool = λ z. same z y in
    let keep : X → Bool = λ z. not (same x z) in
    ⊎_elim
    (λ same_k.
    let other : same x k ≡ false = false_from_ne_true (same x k) (λ e. false≢true (sym n ∙ trans x k y e same_k)) in
    ap (list_any test) (cond-true (keep k) (k ∷ filter keep ks) (filter keep ks) (not_from_false (same x k) other)) ∙ or_left (test k) (list_any test (filter keep ks)) same_k)
    (λ later.
    ⊎_elim
    (λ e. ap (list_any test) (cond-true (keep k) (k ∷ filter keep ks) (filter keep ks) e) ∙ or_right (test k) (list_any test (filter keep ks)) (list_any-filter_same same trans x y ks later n))
    (λ e. ap (list_any test) (cond-false (keep k) (k ∷ filter keep ks) (filter keep ks) e) ∙ list_any-filter_same same trans x y ks later n)
    (cases_Bool (keep k)))
    (or_cases (same k y) (list_any test ks) h)

-- one more element at the end
pub firsts-push : {X : Type 0} (same : X → X → Bool) → IsTransitive same → (xs : List X) (y : X) → firsts same (xs ++ y ∷ []) ≡ with_new same (firsts same xs) y
firsts-push same trans [] y = refl
firsts-push {X} same trans (x ∷ xs) y =
    let test : X → Bool = λ k. same k y in
    let keep : X → Bool = λ z. not (same x z) in
    let ks = firsts same xs in
    let rest = filter keep ks in
    ap (λ l. x ∷ filter keep l) (firsts-push same trans xs y) ∙
    ⊎_elim
    (λ found.
    ap (λ l. x ∷ filter keep l) (cond-true (list_any test ks) ks (ks ++ y ∷ []) found) ∙
    sym (cond-true (same x y || list_any test rest) (x ∷ rest) ((x ∷ rest) ++ y ∷ [])
    (⊎_elim (λ e. or_left (same x y) (list_any test rest) e) (λ e. or_right (same x y) (list_any test rest) (list_any-filter_same same trans x y ks found e)) (cases_Bool (same x y)))))
    (λ missing.
    ap (λ l. x ∷ filter keep l) (cond-false (list_any test ks) ks (ks ++ y ∷ []) missing) ∙
    ap (λ l. x ∷ l) (filter-append keep ks (y ∷ [])) ∙
    ⊎_elim
    (λ e.
    ap (λ l. x ∷ (rest ++ l)) (cond-false (keep y) (y ∷ []) [] (not_from_true (same x y) e)) ∙ ap (λ l. x ∷ l) (append-nil rest) ∙
    sym (cond-true (same x y || list_any test rest) (x ∷ rest) ((x ∷ rest) ++ y ∷ []) (or_left (same x y) (list_any test rest) e)))
    (λ e.
    ap (λ l. x ∷ (rest ++ l)) (cond-true (keep y) (y ∷ []) [] (not_from_false (same x y) e)) ∙
    sym (cond-false (same x y || list_any test rest) (x ∷ rest) ((x ∷ rest) ++ y ∷ []) (or_from (same x y) (list_any test rest) e (list_any-filter_none test keep ks missing))))
    (cases_Bool (same x y)))
    (cases_Bool (list_any test ks))

-- more elements at the end
pub firsts-append : {X : Type 0} (same : X → X → Bool) → IsTransitive same → (xs ys : List X) → fold (with_new same) (firsts same xs) ys ≡ firsts same (xs ++ ys)
firsts-append same trans xs [] = ap (firsts same) (sym (append-nil xs))
firsts-append same trans xs (y ∷ ys) =
    ap (λ k. fold (with_new same) k ys) (sym (firsts-push same trans xs y)) ∙ firsts-append same trans (xs ++ y ∷ []) ys ∙ ap (firsts same) (append_assoc xs (y ∷ []) ys)
