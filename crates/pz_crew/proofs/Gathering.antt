-- What is kept grows by what the lanes give.
use Rattle.std.proofs.Common.{◌≡◌, ◌≢◌, ℕ, zero, suc, ◌<◌, List, [], ◌∷◌, ◌++◌, map, length, get_or, set, Bool, true, false, refl, sym, ap, ◌∙◌, subst, arith, length-set, get_or-set_same, get_or-set_other, eq-eqb, ne_eqb}
use Rattle.std.proofs.lemmas.List.{append-nil}
use Rattle.std.specs.Prelude.{◌==◌}
use native.Mathlib.Decide.{ℕ_discrete}
use mathlib.Core.Logic.{dite}
use Rattle.pz_crew.specs.declared.lane.Message.{Message}
use Rattle.pz_crew.specs.declared.lane.Message.TheVariants as messages
use Rattle.pz_crew.specs.Recorded.{of_session, kept, Gathered}

pub of_append : {T : Type 0} → (k : ℕ) (ms ns : List (Message T)) → of_session k (ms ++ ns) ≡ of_session k ms ++ of_session k ns
of_append k [] ns = refl
of_append {T = T} k (messages.Piece j x ∷ ms) ns = by_test (j == k) refl (of_append k ms ns)
  where
    by_test : (b : Bool) → (j == k) ≡ b → of_session k (ms ++ ns) ≡ of_session k ms ++ of_session k ns → of_session k (messages.Piece j x ∷ (ms ++ ns)) ≡ of_session k (messages.Piece j x ∷ ms) ++ of_session k ns
    by_test true e more = rw e (ap (λ (l : List T). x ∷ l) more)
    by_test false e more = rw e more
of_append k (messages.Last e ∷ ms) ns = of_append k ms ns

of_same : {T : Type 0} → (k : ℕ) (x : T) → of_session k (messages.Piece k x ∷ []) ≡ x ∷ []
of_same k x = rw (eq-eqb k k refl) refl

of_other : {T : Type 0} → (k j : ℕ) (x : T) → j ≢ k → of_session k (messages.Piece j x ∷ []) ≡ []
of_other k j x ne = rw (ne_eqb j k ne) refl

front_none : {T : Type 0} → (xs ys : List T) → xs ++ ys ≡ [] → xs ≡ []
front_none [] ys e = refl
front_none (x ∷ xs) ys e = absurd (cc)

back_none : {T : Type 0} → (xs ys : List T) → xs ++ ys ≡ [] → ys ≡ []
back_none [] ys e = e
back_none (x ∷ xs) ys e = absurd (cc)

pub length_kept : {T : Type 0} → (sessions : List (List T)) (m : (Message T)) → length (kept sessions m) ≡ length sessions
length_kept sessions (messages.Piece k x) = length-set sessions k (get_or sessions k [] ++ x ∷ [])
length_kept sessions (messages.Last e) = refl

-- the session k grows by the item, if the message has one of its own
kept_at : {T : Type 0} → (sessions : List (List T)) (m : (Message T)) (k : ℕ) → k < length sessions → get_or (kept sessions m) k [] ≡ get_or sessions k [] ++ of_session k (m ∷ [])
kept_at sessions (messages.Last e) k h = sym (append-nil (get_or sessions k []))
kept_at {T = T} sessions (messages.Piece c x) k h =
    dite (ℕ_discrete c k)
    (λ (e : c ≡ k). subst (λ (n : ℕ). get_or (set sessions n (get_or sessions n [] ++ x ∷ [])) k [] ≡ get_or sessions k [] ++ of_session k (messages.Piece n x ∷ [])) (sym e)
    (get_or-set_same sessions k (get_or sessions k [] ++ x ∷ []) [] h ∙ ap (λ (l : List T). get_or sessions k [] ++ l) (sym (of_same k x))))
    (λ ne. get_or-set_other sessions c k (get_or sessions c [] ++ x ∷ []) [] (λ e. ne (sym e)) ∙ sym (append-nil (get_or sessions k [])) ∙ ap (λ (l : List T). get_or sessions k [] ++ l) (sym (of_other k c x ne)))

-- what one more message of the lane i adds
pub gathers : {T : Type 0} → (lanes : List (List (Message T))) (sessions : List (List T)) (i : ℕ) (m : (Message T)) → i < length lanes → Gathered lanes sessions → Gathered (set lanes i (get_or lanes i [] ++ m ∷ [])) (kept sessions m)
gathers {T = T} lanes sessions i m here g k l below alone =
    let S : List (Message T) = get_or lanes i [] in
    let now : List (List (Message T)) = set lanes i (S ++ m ∷ []) in
    let fits : k < length sessions = omega (arith, length_kept sessions m) in
    let at_i : get_or now i [] ≡ S ++ m ∷ [] = get_or-set_same lanes i (S ++ m ∷ []) [] here in
    let grown : of_session k (get_or now i []) ≡ of_session k S ++ of_session k (m ∷ []) = ap (of_session k) at_i ∙ of_append k S (m ∷ []) in
    let before : (j : ℕ) → j ≢ l → of_session k (get_or lanes j []) ≡ [] =
    λ j ne. dite (ℕ_discrete j i)
    (λ e. subst (λ (n : ℕ). of_session k (get_or lanes n []) ≡ []) (sym e) (front_none (of_session k S) (of_session k (m ∷ [])) (sym grown ∙ alone i (λ same. ne (e ∙ same)))))
    (λ other. ap (of_session k) (sym (get_or-set_other lanes i j (S ++ m ∷ []) [] other)) ∙ alone j ne) in
    let was : get_or sessions k [] ≡ of_session k (get_or lanes l []) = g k l fits before in
    let more : get_or (kept sessions m) k [] ≡ of_session k (get_or lanes l []) ++ of_session k (m ∷ []) = kept_at sessions m k fits ∙ ap (λ (x : List T). x ++ of_session k (m ∷ [])) was in
    dite (ℕ_discrete l i)
    (λ e. more ∙ ap (λ (n : ℕ). of_session k (get_or lanes n []) ++ of_session k (m ∷ [])) e ∙ sym grown ∙ ap (λ (n : ℕ). of_session k (get_or now n [])) (sym e))
    (λ ne.
    let none = back_none (of_session k S) (of_session k (m ∷ [])) (sym grown ∙ alone i (λ same. ne (sym same))) in
    more ∙ ap (λ (x : List T). of_session k (get_or lanes l []) ++ x) none ∙ append-nil (of_session k (get_or lanes l [])) ∙ ap (of_session k) (sym (get_or-set_other lanes i l (S ++ m ∷ []) [] ne)))

-- one element grows by an item
pub grows_at : {T : Type 0} → {X : Type 0} (f : X → List T) (l : List X) (k : ℕ) (x : T) (now new : X) → now ≡ get_or l k now → k < length l → f new ≡ f now ++ x ∷ [] → map f (set l k new) ≡ set (map f l) k (get_or (map f l) k [] ++ x ∷ [])
grows_at f [] k x now new at h e = absurd (omega arith)
grows_at {T = T} f (y ∷ l) zero x now new at h e = ap (λ (ys : List T). ys ∷ map f l) (e ∙ ap (λ z. f z ++ x ∷ []) at)
grows_at {T = T} f (y ∷ l) (suc k) x now new at h e = ap (λ (yss : List (List T)). f y ∷ yss) (grows_at f l k x now new at (omega arith) e)
