-- Things that are read one by one, as a loop reads them: behind those that it has read.
use Rattle.std.proofs.Common.{◌≡◌, ℕ, ◌+◌, List, [], ◌∷◌, ◌++◌, map, length, Option, Some, None, IfSome, Result, Ok, Err, refl, ap, sym, ◌∙◌, append_assoc, length-append}
use Rattle.std.specs.Prelude.{option_and_then, option_map, IfOk, IfErr}
use Rattle.std.specs.List.{All, flat_map, enumerate_from}
use Rattle.std.proofs.lemmas.List.{append-nil, map-id}
use Rattle.std.proofs.lemmas.List.Concat.{flat_map_single}
use Rattle.std.proofs.lemmas.List.Elements.{All-nil, All-cons, All-head, All-tail}
use Rattle.pz_base.specs.Fault.{and_then}
use Rattle.pz_base.specs.declared.fault.SourceFault.{SourceFault}
use Rattle.pz_base.specs.Each.{each_ok, all_some}

-- what each thing gives, put behind what is done, or the first fault
abbrev pub behind : {A B C : Type 0} → (B → List C) → (A → Result B SourceFault) → List C → List A → Result (List C) SourceFault
behind put f done [] = Ok done
behind put f done (x ∷ xs) = and_then (λ y. behind put f (done ++ put y) xs) (f x)

-- the same where each is read by the number of those above it
abbrev pub behind_at : {A B : Type 0} → (ℕ → A → Result B SourceFault) → List B → List A → Result (List B) SourceFault
behind_at f done [] = Ok done
behind_at f done (x ∷ xs) = and_then (λ y. behind_at f (done ++ y ∷ []) xs) (f (length done) x)

-- and of values that may be missing
abbrev pub some_behind : {A B : Type 0} → (A → Option B) → List B → List A → Option (List B)
some_behind f done [] = Some done
some_behind f done (x ∷ xs) = option_and_then (λ y. some_behind f (done ++ y ∷ []) xs) (f x)

-- one alone
abbrev pub one : {A : Type 0} → A → List A
one x = x ∷ []

behind_is : {A B C : Type 0} (put : B → List C) (f : A → Result B SourceFault) (done : List C) (xs : List A)
    → behind put f done xs ≡ and_then (λ ys. Ok (done ++ flat_map put ys)) (each_ok (map f xs))
behind_is put f done [] = ap Ok (sym (append-nil done))
behind_is {A} {B} {C} put f done (x ∷ xs) = by (f x) (λ y. behind_is put f (done ++ put y) xs)
  where
    moved : (y : B) (r : Result (List B) SourceFault)
        → and_then (λ ys. Ok ((done ++ put y) ++ flat_map put ys)) r ≡ and_then (λ ys. Ok (done ++ flat_map put ys)) (and_then (λ ys. Ok (y ∷ ys)) r)
    moved y (Ok ys) = ap Ok (append_assoc done (put y) (flat_map put ys))
    moved y (Err fault) = refl

    by : (r : Result B SourceFault) → ((y : B) → behind put f (done ++ put y) xs ≡ and_then (λ ys. Ok ((done ++ put y) ++ flat_map put ys)) (each_ok (map f xs)))
        → and_then (λ y. behind put f (done ++ put y) xs) r
        ≡ and_then (λ ys. Ok (done ++ flat_map put ys)) (and_then (λ y. and_then (λ ys. Ok (y ∷ ys)) (each_ok (map f xs))) r)
    by (Ok y) each = each y ∙ moved y (each_ok (map f xs))
    by (Err fault) each = refl

pub behind_none : {A B : Type 0} (f : A → Result B SourceFault) (xs : List A) → behind one f [] xs ≡ each_ok (map f xs)
behind_none {A} {B} f xs = behind_is one f [] xs ∙ by (each_ok (map f xs))
  where
    by : (r : Result (List B) SourceFault) → and_then (λ ys. Ok (flat_map one ys)) r ≡ r
    by (Ok ys) = ap Ok (flat_map_single (λ y. y) ys ∙ map-id ys)
    by (Err fault) = refl

pub joined_none : {A C : Type 0} (f : A → Result (List C) SourceFault) (xs : List A)
    → behind (λ ys. ys) f [] xs ≡ and_then (λ ys. Ok (flat_map (λ y. y) ys)) (each_ok (map f xs))
joined_none f xs = behind_is (λ ys. ys) f [] xs

behind_at_is : {A B : Type 0} (f : ℕ → A → Result B SourceFault) (done : List B) (xs : List A)
    → behind_at f done xs ≡ and_then (λ ys. Ok (done ++ ys)) (each_ok (map (λ e. f e.0 e.1) (enumerate_from (length done) xs)))
behind_at_is f done [] = ap Ok (sym (append-nil done))
behind_at_is {A} {B} f done (x ∷ xs) = by (f (length done) x) (λ y. behind_at_is f (done ++ y ∷ []) xs)
  where
    rest : ℕ → Result (List B) SourceFault
    rest n = each_ok (map (λ e. f e.0 e.1) (enumerate_from n xs))

    moved : (y : B) (r : Result (List B) SourceFault)
        → and_then (λ ys. Ok ((done ++ y ∷ []) ++ ys)) r ≡ and_then (λ ys. Ok (done ++ ys)) (and_then (λ ys. Ok (y ∷ ys)) r)
    moved y (Ok ys) = ap Ok (append_assoc done (y ∷ []) ys)
    moved y (Err fault) = refl

    by : (r : Result B SourceFault) → ((y : B) → behind_at f (done ++ y ∷ []) xs ≡ and_then (λ ys. Ok ((done ++ y ∷ []) ++ ys)) (rest (length (done ++ y ∷ []))))
        → and_then (λ y. behind_at f (done ++ y ∷ []) xs) r ≡ and_then (λ ys. Ok (done ++ ys)) (and_then (λ y. and_then (λ ys. Ok (y ∷ ys)) (rest (length done + 1))) r)
    by (Ok y) each =
        each y ∙ (ap (λ n. and_then (λ ys. Ok ((done ++ y ∷ []) ++ ys)) (rest n)) (length-append done (y ∷ [])) ∙ moved y (rest (length done + 1)))
    by (Err fault) each = refl

pub behind_at_none : {A B : Type 0} (f : ℕ → A → Result B SourceFault) (xs : List A) → behind_at f [] xs ≡ each_ok (map (λ e. f e.0 e.1) (enumerate_from 0 xs))
behind_at_none {A} {B} f xs = behind_at_is f [] xs ∙ by (each_ok (map (λ e. f e.0 e.1) (enumerate_from 0 xs)))
  where
    by : (r : Result (List B) SourceFault) → and_then (λ ys. Ok ys) r ≡ r
    by (Ok ys) = refl
    by (Err fault) = refl

some_behind_is : {A B : Type 0} (f : A → Option B) (done : List B) (xs : List A) → some_behind f done xs ≡ option_map (λ ys. done ++ ys) (all_some (map f xs))
some_behind_is f done [] = ap Some (sym (append-nil done))
some_behind_is {A} {B} f done (x ∷ xs) = by (f x) (λ y. some_behind_is f (done ++ y ∷ []) xs)
  where
    moved : (y : B) (o : Option (List B)) → option_map (λ ys. (done ++ y ∷ []) ++ ys) o ≡ option_map (λ ys. done ++ ys) (option_map (λ ys. y ∷ ys) o)
    moved y (Some ys) = ap Some (append_assoc done (y ∷ []) ys)
    moved y None = refl

    by : (o : Option B) → ((y : B) → some_behind f (done ++ y ∷ []) xs ≡ option_map (λ ys. (done ++ y ∷ []) ++ ys) (all_some (map f xs)))
        → option_and_then (λ y. some_behind f (done ++ y ∷ []) xs) o ≡ option_map (λ ys. done ++ ys) (option_and_then (λ y. option_map (λ ys. y ∷ ys) (all_some (map f xs))) o)
    by (Some y) each = each y ∙ moved y (all_some (map f xs))
    by None each = refl

pub some_behind_none : {A B : Type 0} (f : A → Option B) (xs : List A) → some_behind f [] xs ≡ all_some (map f xs)
some_behind_none {A} {B} f xs = some_behind_is f [] xs ∙ by (all_some (map f xs))
  where
    by : (o : Option (List B)) → option_map (λ ys. ys) o ≡ o
    by (Some ys) = refl
    by None = refl

-- the fault of all is a fault of one
pub each-fault : {A B : Type 0} (Q : A → Type 0) (P : SourceFault → Type 0) (f : A → Result B SourceFault) → ((x : A) → Q x → IfErr (f x) P) → (xs : List A) → All Q xs
    → IfErr (each_ok (map f xs)) P
each-fault Q P f each [] all = tt
each-fault {A} {B} Q P f each (x ∷ xs) all = by (f x) (each x (All-head Q x xs all)) (each_ok (map f xs)) (each-fault Q P f each xs (All-tail Q x xs all))
  where
    by : (r : Result B SourceFault) → IfErr r P → (rest : Result (List B) SourceFault) → IfErr rest P → IfErr (and_then (λ y. and_then (λ ys. Ok (y ∷ ys)) rest) r) P
    by (Err fault) h rest k = h
    by (Ok y) h (Err fault) k = k
    by (Ok y) h (Ok ys) k = tt

-- what is true of each value is true of all
pub each-ok : {A B : Type 0} (P : B → Type 0) (f : A → Result B SourceFault) → ((x : A) → IfOk (f x) P) → (xs : List A) → IfOk (each_ok (map f xs)) (All P)
each-ok P f each [] = All-nil P
each-ok {A} {B} P f each (x ∷ xs) = by (f x) (each x) (each_ok (map f xs)) (each-ok P f each xs)
  where
    by : (r : Result B SourceFault) → IfOk r P → (rest : Result (List B) SourceFault) → IfOk rest (All P) → IfOk (and_then (λ y. and_then (λ ys. Ok (y ∷ ys)) rest) r) (All P)
    by (Err fault) h rest k = tt
    by (Ok y) h (Err fault) k = tt
    by (Ok y) h (Ok ys) k = All-cons P y ys h k

pub each-some : {A B : Type 0} (P : B → Type 0) (f : A → Option B) → ((x : A) → IfSome (f x) P) → (xs : List A) → IfSome (all_some (map f xs)) (All P)
each-some P f each [] = All-nil P
each-some {A} {B} P f each (x ∷ xs) = by (f x) (each x) (all_some (map f xs)) (each-some P f each xs)
  where
    by : (o : Option B) → IfSome o P → (rest : Option (List B)) → IfSome rest (All P) → IfSome (option_and_then (λ y. option_map (λ ys. y ∷ ys) rest) o) (All P)
    by None h rest k = tt
    by (Some y) h None k = tt
    by (Some y) h (Some ys) k = All-cons P y ys h k

-- numbered things pass the tests that the things pass
pub All-numbered : {A : Type 0} (Q : A → Type 0) (n : ℕ) (xs : List A) → All Q xs → All (λ e. Q e.1) (enumerate_from n xs)
All-numbered {A} Q n [] all = All-nil (λ (e : ℕ × A). Q e.1)
All-numbered {A} Q n (x ∷ xs) all = All-cons (λ (e : ℕ × A). Q e.1) (n, x) (enumerate_from (n + 1) xs) (All-head Q x xs all) (All-numbered Q (n + 1) xs (All-tail Q x xs all))
