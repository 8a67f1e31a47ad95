-- Sets of names that are kept as keys.
use Rattle.std.proofs.Common.{◌≡◌, ℕ, Bool, true, false, ◌||◌, ◌&&◌, List, [], ◌∷◌, map, fold, refl, ap, ap₂, sym, ◌∙◌}
use Rattle.std.specs.declared.cmp.Ordering.{Ordering}
use Rattle.std.specs.declared.cmp.Ordering.TheVariants.{Less, Equal, Greater}
use Rattle.std.specs.Ordering.{match_ordering}
use Rattle.std.specs.BTreeSet.{insert_key}
use Rattle.std.specs.List.{list_any, list_all}
use Rattle.std.specs.Str.{bytes_eq}
use Rattle.std.specs.Ordering.{nat_cmp, is_eq}
use Rattle.std.specs.Cmp.Lexicographic.{slice_cmp}
use Rattle.std.proofs.lemmas.Map.Text.{is_eq-slice_cmp}
use Rattle.std.proofs.lemmas.Slice.Eq.{bytes_eq-Decides}
use Rattle.pz_record.specs.CellNames.{has_name, with_name, set_of, same_set}

ordered_map : {X Y : Type 0} (f : X → Y) (o : Ordering) (a b c : List X) → map f (match_ordering o a b c) ≡ match_ordering o (map f a) (map f b) (map f c)
ordered_map f Less a b c = refl
ordered_map f Equal a b c = refl
ordered_map f Greater a b c = refl

-- keys that are compared by what is seen of them
pub insert_seen : {X Y : Type 0} (f : X → Y) (cmp : Y → Y → Ordering) (keys : List X) (k : X) → map f (insert_key (λ x y. cmp (f x) (f y)) keys k) ≡ insert_key cmp (map f keys) (f k)
insert_seen f cmp [] k = refl
insert_seen {X} f cmp (x ∷ keys) k =
    ordered_map f (cmp (f k) (f x)) (k ∷ x ∷ keys) (x ∷ keys) (x ∷ insert_key (λ a b. cmp (f a) (f b)) keys k)
    ∙ ap (λ l. match_ordering (cmp (f k) (f x)) (f k ∷ f x ∷ map f keys) (f x ∷ map f keys) (f x ∷ l)) (insert_seen f cmp keys k)

pub any_seen : {X Y : Type 0} (f : X → Y) (p : Y → Bool) (q : X → Bool) (keys : List X) → ((x : X) → q x ≡ p (f x)) → list_any q keys ≡ list_any p (map f keys)
any_seen f p q [] e = refl
any_seen f p q (x ∷ keys) e = ap₂ (λ a b. a || b) (e x) (any_seen f p q keys e)

pub all_seen : {X Y : Type 0} (f : X → Y) (p : Y → Bool) (keys : List X) → list_all (λ x. p (f x)) keys ≡ list_all p (map f keys)
all_seen f p [] = refl
all_seen f p (x ∷ keys) = ap (λ b. p (f x) && b) (all_seen f p keys)

and_twice : (b c : Bool) → (b && c) ≡ (b && (b && c))
and_twice true c = refl
and_twice false c = refl

and_swap : (a b c : Bool) → (a && (b && c)) ≡ (b && (a && c))
and_swap true b c = refl
and_swap false true c = refl
and_swap false false c = refl

or_twice : (b c : Bool) → (b || c) ≡ (b || (b || c))
or_twice true c = refl
or_twice false c = refl

or_swap : (a b c : Bool) → (a || (b || c)) ≡ (b || (a || c))
or_swap true true c = refl
or_swap true false c = refl
or_swap false b c = refl

same_key : (k y : List ℕ) → slice_cmp nat_cmp k y ≡ Equal → k ≡ y
same_key k y e = (bytes_eq-Decides k y).0 (sym (is_eq-slice_cmp k y) ∙ ap is_eq e)

all_put : (p : List ℕ → Bool) (k y : List ℕ) (ys later : List (List ℕ)) (o : Ordering) → slice_cmp nat_cmp k y ≡ o → list_all p later ≡ (p k && list_all p ys)
    → list_all p (match_ordering o (k ∷ y ∷ ys) (y ∷ ys) (y ∷ later)) ≡ (p k && (p y && list_all p ys))
all_put p k y ys later Less e h = refl
all_put p k y ys later Equal e h = rw (same_key k y e) (and_twice (p y) (list_all p ys))
all_put p k y ys later Greater e h = ap (λ b. p y && b) h ∙ and_swap (p y) (p k) (list_all p ys)

any_put : (p : List ℕ → Bool) (k y : List ℕ) (ys later : List (List ℕ)) (o : Ordering) → slice_cmp nat_cmp k y ≡ o → list_any p later ≡ (p k || list_any p ys)
    → list_any p (match_ordering o (k ∷ y ∷ ys) (y ∷ ys) (y ∷ later)) ≡ (p k || (p y || list_any p ys))
any_put p k y ys later Less e h = refl
any_put p k y ys later Equal e h = rw (same_key k y e) (or_twice (p y) (list_any p ys))
any_put p k y ys later Greater e h = ap (λ b. p y || b) h ∙ or_swap (p y) (p k) (list_any p ys)

all_with : (p : List ℕ → Bool) (names : List (List ℕ)) (k : List ℕ) → list_all p (insert_key (slice_cmp nat_cmp) names k) ≡ (p k && list_all p names)
all_with p [] k = refl
all_with p (y ∷ ys) k = all_put p k y ys (insert_key (slice_cmp nat_cmp) ys k) (slice_cmp nat_cmp k y) refl (all_with p ys k)

any_with : (p : List ℕ → Bool) (names : List (List ℕ)) (k : List ℕ) → list_any p (insert_key (slice_cmp nat_cmp) names k) ≡ (p k || list_any p names)
any_with p [] k = refl
any_with p (y ∷ ys) k = any_put p k y ys (insert_key (slice_cmp nat_cmp) ys k) (slice_cmp nat_cmp k y) refl (any_with p ys k)

pub all_of : (p : List ℕ → Bool) (done names : List (List ℕ)) → list_all p (fold with_name done names) ≡ (list_all p names && list_all p done)
unfolding with_name
all_of p done [] = refl
all_of p done (k ∷ names) =
    all_of p (insert_key (slice_cmp nat_cmp) done k) names ∙ ap (λ b. list_all p names && b) (all_with p done k) ∙ regroup (list_all p names) (p k) (list_all p done)
  where
    regroup : (a b c : Bool) → (a && (b && c)) ≡ ((b && a) && c)
    regroup true true c = refl
    regroup true false c = refl
    regroup false true c = refl
    regroup false false c = refl

any_of : (p : List ℕ → Bool) (done names : List (List ℕ)) → list_any p (fold with_name done names) ≡ (list_any p names || list_any p done)
unfolding with_name
any_of p done [] = refl
any_of p done (k ∷ names) =
    any_of p (insert_key (slice_cmp nat_cmp) done k) names ∙ ap (λ b. list_any p names || b) (any_with p done k) ∙ regroup (list_any p names) (p k) (list_any p done)
  where
    regroup : (a b c : Bool) → (a || (b || c)) ≡ ((b || a) || c)
    regroup true true c = refl
    regroup true false c = refl
    regroup false true c = refl
    regroup false false c = refl

and_true : (b : Bool) → (b && true) ≡ b
and_true true = refl
and_true false = refl

or_false : (b : Bool) → (b || false) ≡ b
or_false true = refl
or_false false = refl

all_alike : (p q : List ℕ → Bool) (names : List (List ℕ)) → ((name : List ℕ) → p name ≡ q name) → list_all p names ≡ list_all q names
all_alike p q [] e = refl
all_alike p q (name ∷ names) e = ap₂ (λ a b. a && b) (e name) (all_alike p q names e)

-- the names of a set are those of which it was made
pub same_as_set : (names set : List (List ℕ)) → same_set (set_of names) set ≡ (list_all (has_name set) names && list_all (has_name names) set)
unfolding same_set
same_as_set names set =
    ap₂ (λ a b. a && b) (all_of (has_name set) [] names ∙ and_true (list_all (has_name set) names))
    (all_alike (has_name (set_of names)) (has_name names) set (λ name. any_of (bytes_eq name) [] names ∙ or_false (list_any (bytes_eq name) names)))
