-- A name that reaches itself lies on a chain of definitions that leads back to it, and the other way round.
use Rattle.std.proofs.Common.{◌≡◌, ℕ, ◌<◌, ◌≤◌, ◌+◌, ◌-◌, zero, suc, Bool, true, false, ◌||◌, List, [], ◌∷◌, ◌++◌, length, refl, subst, arith, length-append}
use Rattle.std.specs.Prelude.{Option, Some, None, nat_eq, ◌==◌, slice_get}
use Rattle.std.proofs.lemmas.Bool.{eqb-true}
use Rattle.std.proofs.lemmas.Option.{slice_get_within}
use Rattle.std.proofs.lemmas.Map.Steps.{length-le_from_distinct_below}
use Rattle.std.specs.Option.{option_map_or}
use Rattle.std.specs.List.{list_any, IsDistinct}
use Rattle.pz_names.proofs.CycleLemmas.{same_self, or_true, reaches_within, path_reaches, path_tail, none_equal}
use Rattle.pz_names.specs.Cycles.{reaches, IsChain, LeadsTo}
use Rattle.pz_names.specs.Meaning.{parts_of, parts_at}
use Rattle.pz_names.specs.declared.meaning.Meaning.{Meaning}

-- an element that passes the test
pub record Witness (q : ℕ → Bool) (parts : List ℕ) : Type 0 where
  pub part : ℕ
  pub among : list_any (λ p. p == part) parts ≡ true
  pub passes : q part ≡ true

pub witness : (q : ℕ → Bool) (parts : List ℕ) → list_any q parts ≡ true → Witness q parts
witness q [] h = cc
witness q (p ∷ ps) h = by (q p) refl h (witness q ps)
  where
    by : (b : Bool) → q p ≡ b → (b || list_any q ps) ≡ true → (list_any q ps ≡ true → Witness q ps) → Witness q (p ∷ ps)
    by true e k rest = record { part = p; among = rw (same_self p) refl; passes = e }
    by false e k rest = let w = rest k in record { part = w.part; among = rw w.among (or_true (p == w.part)); passes = w.passes }

last_among : (xs : List ℕ) (t : ℕ) → list_any (λ p. p == t) (xs ++ t ∷ []) ≡ true
last_among [] t = rw (same_self t) refl
last_among (x ∷ xs) t = rw (last_among xs t) (or_true (x == t))

module _ (meanings : List Meaning) where
  -- where steps lead to a name, a chain does
  pub leads_from_reaches : (n from to : ℕ) → reaches n meanings from to ≡ true → LeadsTo meanings from to
  unfolding reaches IsChain
  leads_from_reaches zero from to h = cc
  leads_from_reaches (suc n) from to h = by (witness (λ p. p == to || reaches n meanings p to) (parts_at meanings from) h) (leads_from_reaches n)
    where
      further : (p : ℕ) → list_any (λ q. q == p) (parts_at meanings from) ≡ true → (b : Bool) → (p == to) ≡ b → (b || reaches n meanings p to) ≡ true
          → (reaches n meanings p to ≡ true → LeadsTo meanings p to) → LeadsTo meanings from to
      further p among true e h rest = ([], (subst (λ k. list_any (λ q. q == k) (parts_at meanings from) ≡ true) (eqb-true p to e) among, tt))
      further p among false e h rest = let l = rest h in (p ∷ l.0, (among, l.1))

      by : Witness (λ p. p == to || reaches n meanings p to) (parts_at meanings from) → ((p t : ℕ) → reaches n meanings p t ≡ true → LeadsTo meanings p t) → LeadsTo meanings from to
      by w rest = further w.part w.among (w.part == to) refl w.passes (rest w.part to)

  -- a chain that names none twice before its end
  record Simple (from to : ℕ) : Type 0 where
    between : List ℕ
    chain : IsChain meanings (from ∷ (between ++ to ∷ []))
    distinct : IsDistinct nat_eq (from ∷ between)

  -- the part of a chain from the place where it names x
  cut : (x t : ℕ) (zs : List ℕ) → list_any (λ p. p == x) zs ≡ true → IsChain meanings (zs ++ t ∷ []) → IsDistinct nat_eq zs → Simple x t
  unfolding IsDistinct
  cut x t [] h chain distinct = cc
  cut x t (z ∷ zs) h chain distinct = by (z == x) refl h (λ k. cut x t zs k (path_tail meanings z (zs ++ t ∷ []) chain) distinct.1)
    where
      by : (b : Bool) → (z == x) ≡ b → (b || list_any (λ p. p == x) zs) ≡ true → (list_any (λ p. p == x) zs ≡ true → Simple x t) → Simple x t
      by true e k rest =
          subst (λ y. Simple y t) (eqb-true z x e) (record { between = zs; chain = chain; distinct = distinct })
      by false e k rest = rest k

  simple : (x t : ℕ) (between : List ℕ) → IsChain meanings (x ∷ (between ++ t ∷ [])) → Simple x t
  unfolding IsDistinct IsChain
  simple x t [] chain = record { between = []; chain = chain; distinct = (tt, tt) }
  simple x t (y ∷ between) chain = by (simple y t between chain.1)
    where
      by : Simple y t → Simple x t
      by s = split (list_any (λ p. p == x) (y ∷ s.between)) refl
        where
          split : (b : Bool) → list_any (λ p. p == x) (y ∷ s.between) ≡ b → Simple x t
          split true e = cut x t (y ∷ s.between) e s.chain s.distinct
          split false e = record { between = y ∷ s.between; chain = (chain.0, s.chain); distinct = (none_equal meanings x (y ∷ s.between) e, s.distinct) }

  -- a name with parts is in the table
  has_parts : (z y : ℕ) → list_any (λ p. p == y) (parts_at meanings z) ≡ true → z < length meanings
  has_parts z y h = by (slice_get meanings z) refl h
    where
      by : (o : Option Meaning) → slice_get meanings z ≡ o → list_any (λ p. p == y) (option_map_or parts_of o []) ≡ true → z < length meanings
      by None e k = cc
      by (Some m) e k = slice_get_within meanings z m e

  -- each name of a chain before its end is in the table
  inside : (zs : List ℕ) (t : ℕ) → IsChain meanings (zs ++ t ∷ []) → (q : ℕ) → list_any (nat_eq q) zs ≡ true → q < length meanings
  unfolding IsChain
  inside [] t chain q h = cc
  inside (z ∷ []) t chain q h = by (nat_eq q z) refl h
    where
      by : (b : Bool) → nat_eq q z ≡ b → (b || false) ≡ true → q < length meanings
      by true e k = let same = eqb-true q z e in let low = has_parts z t chain.0 in omega arith
      by false e k = cc
  inside (z ∷ y ∷ zs) t chain q h = by (nat_eq q z) refl h (inside (y ∷ zs) t chain.1 q)
    where
      by : (b : Bool) → nat_eq q z ≡ b → (b || list_any (nat_eq q) (y ∷ zs)) ≡ true → (list_any (nat_eq q) (y ∷ zs) ≡ true → q < length meanings) → q < length meanings
      by true e k rest = let same = eqb-true q z e in let low = has_parts z y chain.0 in omega arith
      by false e k rest = rest k

  -- where a chain leads to a name, steps within the number of names do
  pub reaches_from_leads : (from to : ℕ) → LeadsTo meanings from to → reaches (length meanings) meanings from to ≡ true
  reaches_from_leads from to l =
      let s = simple from to l.0 l.1 in
      let short : length (from ∷ s.between) ≤ length meanings = length-le_from_distinct_below (from ∷ s.between) (length meanings) s.distinct (inside (from ∷ s.between) to s.chain) in
      let long : length (s.between ++ to ∷ []) ≡ length s.between + 1 = length-append s.between (to ∷ []) in
      let here = path_reaches meanings from (s.between ++ to ∷ []) s.chain to (last_among s.between to) in
      let steps = length (s.between ++ to ∷ []) in
      let far = reaches_within meanings (length meanings - steps) steps from to here in
      let total : (length meanings - steps) + steps ≡ length meanings = omega arith in
      subst (λ k. reaches k meanings from to ≡ true) total far
