-- Folds over lists beside one another, and tests of numbered elements.
use Rattle.pz_grid.proofs.Common.{AllPass-from_list_all, Bool, List, add-one, ap, arith, enumerate_all, enumerate_from, enumerate_more, false, fold, fold-append, get_or, get_or-zip, get_or_default, length, length-enumerate_from, length-zip, list_all, list_all_at, list_all_more, min, numbered_at, refl, suc, sym, take, take_all, take_more, true, zero, zip, ℕ, ◌+◌, ◌<◌, ◌∙◌, ◌≡◌, ◌≤◌}

-- one more of a fold
fold_take_more : {A S : Type 0} (f : S → A → S) (start : S) (xs : List A) (i : ℕ) (d x : A) → i < length xs → get_or xs i d ≡ x → fold f start (take (i + 1) xs) ≡ f (fold f start (take i xs)) x
fold_take_more f start xs i d x within is = rw (take_more xs i d within, fold-append, is)

pub zip_at : {A B : Type 0} (xs : List A) (ys : List B) (i : ℕ) (x : A) (y : B) → i < length xs → i < length ys → x ≡ get_or xs i x → y ≡ get_or ys i y → get_or (zip xs ys) i (x, y) ≡ (x, y)
zip_at xs ys i x y in_x in_y is_x is_y = grind (arith, get_or-zip xs ys i (x, y) in_x in_y, is_x, is_y)

-- one more of a fold over two lists beside one another
pub fold_zip_more : {A B S : Type 0} (f : S → A × B → S) (start : S) (xs : List A) (ys : List B) (i : ℕ) (x : A) (y : B) → i < length xs → i < length ys → x ≡ get_or xs i x → y ≡ get_or ys i y → fold f start (take (i + 1) (zip xs ys)) ≡ f (fold f start (take i (zip xs ys))) (x, y)
fold_zip_more f start xs ys i x y in_x in_y is_x is_y = fold_take_more f start (zip xs ys) i (x, y) (x, y) (omega (arith, length-zip xs ys)) (zip_at xs ys i x y in_x in_y is_x is_y)

-- one more of a fold over two lists beside one another, with their numbers
pub fold_numbered_more : {A B S : Type 0} (f : S → ℕ × (A × B) → S) (start : S) (xs : List A) (ys : List B) (i : ℕ) (x : A) (y : B) → i < length xs → i < length ys → x ≡ get_or xs i x → y ≡ get_or ys i y → fold f start (take (i + 1) (enumerate_from 0 (zip xs ys))) ≡ f (fold f start (take i (enumerate_from 0 (zip xs ys)))) (i, (x, y))
fold_numbered_more {A} {B} f start xs ys i x y in_x in_y is_x is_y =
    let within : i < length (zip xs ys) = omega (arith, length-zip xs ys) in
    fold_take_more f start (enumerate_from 0 (zip xs ys)) i (0, (x, y)) (i, (x, y)) (omega (arith, length-enumerate_from 0 (zip xs ys))) (numbered_at (zip xs ys) i (x, y) within (zip_at xs ys i x y in_x in_y is_x is_y))

-- one more pair of two lists passes
pub all_zip_more : {A B : Type 0} (p : A × B → Bool) (xs : List A) (ys : List B) (i : ℕ) (x : A) (y : B) → i < length xs → i < length ys → x ≡ get_or xs i x → y ≡ get_or ys i y → list_all p (take i (zip xs ys)) ≡ true → p (x, y) ≡ true → list_all p (take (i + 1) (zip xs ys)) ≡ true
all_zip_more p xs ys i x y in_x in_y is_x is_y before here = grind (arith, before, here, list_all_more p (zip xs ys) i (x, y), length-zip xs ys, zip_at xs ys i x y)

pub all_zip_fails : {A B : Type 0} (p : A × B → Bool) (xs : List A) (ys : List B) (i : ℕ) (x : A) (y : B) → i < length xs → i < length ys → x ≡ get_or xs i x → y ≡ get_or ys i y → p (x, y) ≡ false → list_all p (zip xs ys) ≡ false
all_zip_fails p xs ys i x y in_x in_y is_x is_y here = grind (arith, here, list_all_at p (zip xs ys) i (x, y), length-zip xs ys, zip_at xs ys i x y)

pub all_zip_all : {A B : Type 0} (p : A × B → Bool) (xs : List A) (ys : List B) (i : ℕ) → min (length xs) (length ys) ≤ i → list_all p (take i (zip xs ys)) ≡ true → list_all p (zip xs ys) ≡ true
all_zip_all p xs ys i past e = ap (list_all p) (sym (take_all i (zip xs ys) (omega (arith, length-zip xs ys)))) ∙ e

-- a test of all numbered elements is one of each
pub each_from_all : {X : Type 0} (p : ℕ × X → Bool) (xs : List X) (d : X) (k : ℕ) → k < length xs → list_all p (enumerate_from 0 xs) ≡ true → p (k, get_or xs k d) ≡ true
each_from_all p xs d k within h =
    grind (arith, h, AllPass-from_list_all p (enumerate_from 0 xs) h k (0, get_or xs k d), length-enumerate_from 0 xs, numbered_at xs k (get_or xs k d), get_or_default xs k d (get_or xs k d) within)

pub first_from_each : {X : Type 0} (p : ℕ × X → Bool) (xs : List X) (d : X) (n : ℕ) → n ≤ length xs → ((k : ℕ) → k < n → p (k, get_or xs k d) ≡ true) → list_all p (take n (enumerate_from 0 xs)) ≡ true
first_from_each p xs d zero low each = refl
first_from_each p xs d (suc n) low each =
    let within : n < length xs = omega arith in
    rw (← add-one) (enumerate_more p xs n (get_or xs n d) within (get_or_default xs n d _ within) (first_from_each p xs d n (omega arith) (λ k below. each k (omega arith))) (each n (omega arith)))

pub all_from_each : {X : Type 0} (p : ℕ × X → Bool) (xs : List X) (d : X) → ((k : ℕ) → k < length xs → p (k, get_or xs k d) ≡ true) → list_all p (enumerate_from 0 xs) ≡ true
all_from_each p xs d each = enumerate_all p xs (length xs) (omega arith) (first_from_each p xs d (length xs) (omega arith) each)
