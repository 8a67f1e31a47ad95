-- What holds of each element.
use Rattle.std.proofs.Common.{◌≡◌, ℕ, zero, suc, Bool, true, false, not, cond, List, [], ◌∷◌, ◌++◌, filter, map, IfSome, refl}
use Rattle.std.specs.List.{list_all, flat_map, slice_get}
use Rattle.std.proofs.lemmas.Bool.{and_parts, and_from}
use Rattle.pz_base.specs.Lists.{product, firsts}

pub each-append : {X : Type 0} (p : X → Bool) (xs ys : List X) → list_all p xs ≡ true → list_all p ys ≡ true → list_all p (xs ++ ys) ≡ true
each-append p [] ys h k = k
each-append p (x ∷ xs) ys h k =
    let q = and_parts (p x) (list_all p xs) h in
    and_from (p x) (list_all p (xs ++ ys)) q.0 (each-append p xs ys q.1 k)

pub each-map : {X Y : Type 0} (q : X → Bool) (p : Y → Bool) (f : X → Y) → ((x : X) → q x ≡ true → p (f x) ≡ true) → (xs : List X) → list_all q xs ≡ true → list_all p (map f xs) ≡ true
each-map q p f one [] h = refl
each-map q p f one (x ∷ xs) h =
    let a = and_parts (q x) (list_all q xs) h in
    and_from (p (f x)) (list_all p (map f xs)) (one x a.0) (each-map q p f one xs a.1)

pub each-map_all : {X Y : Type 0} (p : Y → Bool) (f : X → Y) → ((x : X) → p (f x) ≡ true) → (xs : List X) → list_all p (map f xs) ≡ true
each-map_all p f one [] = refl
each-map_all p f one (x ∷ xs) = and_from (p (f x)) (list_all p (map f xs)) (one x) (each-map_all p f one xs)

pub each-flat_map : {X Y : Type 0} (q : X → Bool) (p : Y → Bool) (f : X → List Y) → ((x : X) → q x ≡ true → list_all p (f x) ≡ true) → (xs : List X) → list_all q xs ≡ true → list_all p (flat_map f xs) ≡ true
each-flat_map q p f one [] h = refl
each-flat_map q p f one (x ∷ xs) h =
    let a = and_parts (q x) (list_all q xs) h in
    each-append p (f x) (flat_map f xs) (one x a.0) (each-flat_map q p f one xs a.1)

pub each-flat_map_all : {X Y : Type 0} (p : Y → Bool) (f : X → List Y) → ((x : X) → list_all p (f x) ≡ true) → (xs : List X) → list_all p (flat_map f xs) ≡ true
each-flat_map_all p f one [] = refl
each-flat_map_all p f one (x ∷ xs) = each-append p (f x) (flat_map f xs) (one x) (each-flat_map_all p f one xs)

pub each-filter : {X : Type 0} (p q : X → Bool) (xs : List X) → list_all p xs ≡ true → list_all p (filter q xs) ≡ true
each-filter p q [] h = refl
each-filter p q (x ∷ xs) h =
    let a = and_parts (p x) (list_all p xs) h in
    let later = each-filter p q xs a.1 in
    let by : (b : Bool) → list_all p (cond b (x ∷ filter q xs) (filter q xs)) ≡ true = λ b. elim b as (λ b. list_all p (cond b (x ∷ filter q xs) (filter q xs)) ≡ true) [
      | true ↦ and_from (p x) (list_all p (filter q xs)) a.0 later
      | false ↦ later
    ] in
    by (q x)

pub each-firsts : {X : Type 0} (p : X → Bool) (same : X → X → Bool) (xs : List X) → list_all p xs ≡ true → list_all p (firsts same xs) ≡ true
each-firsts p same [] h = refl
each-firsts p same (x ∷ xs) h =
    let a = and_parts (p x) (list_all p xs) h in
    and_from (p x) (list_all p (filter (λ y. not (same x y)) (firsts same xs))) a.0 (each-filter p (λ y. not (same x y)) (firsts same xs) (each-firsts p same xs a.1))

pub each-get : {X : Type 0} (p : X → Bool) (xs : List X) (k : ℕ) → list_all p xs ≡ true → IfSome (slice_get xs k) (λ x. p x ≡ true)
each-get p [] k h = tt
each-get p (x ∷ xs) zero h = (and_parts (p x) (list_all p xs) h).0
each-get p (x ∷ xs) (suc k) h = each-get p xs k (and_parts (p x) (list_all p xs) h).1

pub each-product : {X : Type 0} (p : X → Bool) (xss : List (List X)) → list_all (list_all p) xss ≡ true → list_all (list_all p) (product xss) ≡ true
each-product p [] h = refl
each-product {X} p (xs ∷ xss) h =
    let a = and_parts (list_all p xs) (list_all (list_all p) xss) h in
    let head : X → List X → List X = λ x rest. x ∷ rest in
    each-flat_map p (list_all p) (λ x. map (head x) (product xss))
    (λ x e. each-map (list_all p) (list_all p) (head x) (λ rest f. and_from (p x) (list_all p rest) e f) (product xss) (each-product p xss a.1))
    xs a.0
