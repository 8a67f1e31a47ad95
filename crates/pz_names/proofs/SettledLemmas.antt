-- Rounds as many as there are names find what all names denote: a further one finds nothing.
use Rattle.std.proofs.Common.{◌≡◌, ℕ, ◌<◌, ◌≤◌, zero, suc, Bool, true, false, ◌||◌, ◌⊎◌, inl, inr, List, [], ◌∷◌, length, refl, ap, sym, ◌∙◌, arith, rules}
use Rattle.std.specs.Prelude.{Option, Some, None, option_and_then, slice_get, ◌==◌, nat_eq, nat_lt}
use Rattle.std.specs.Option.{option_map_or}
use Rattle.std.specs.List.{list_any, IsDistinct}
use Rattle.std.proofs.lemmas.Bool.{eqb-true}
use Rattle.std.proofs.lemmas.Option.{slice_get_past}
use Rattle.std.proofs.lemmas.Map.Steps.{length-le_from_distinct_below}
use Rattle.pz_names.specs.Meaning.{parts_of, parts_at, StaysInside}
use Rattle.pz_names.specs.Denotation.{value_at, denotation_of, denotation_next}
use Rattle.pz_names.specs.Cycles.{IsChain, LeadsTo}
use Rattle.pz_names.specs.declared.meaning.Meaning.{Meaning}
use Rattle.pz_game.specs.declared.denotation.Denotation.{Denotation}
use Rattle.pz_names.proofs.MemberLemmas.{value_at-more}
use Rattle.pz_names.proofs.CycleLemmas.{chain, path_reaches, path_tail, none_equal}
use Rattle.pz_names.proofs.ChainLemmas.{leads_from_reaches}
use Rattle.pz_names.proofs.QuickLemmas.{missing-part, circle-none}
use borrow.Author.Tests.{ltb-true, ltb-false}

module _ (meanings : List Meaning) where
  -- a name of a path that reaches itself
  record Circular (path : List ℕ) : Type 0 where
    name : ℕ
    among : list_any (λ p. p == name) path ≡ true
    back : LeadsTo meanings name name

  -- a path that names none twice, or has a name that reaches itself
  apart : (path : List ℕ) → IsChain meanings path → IsDistinct nat_eq path ⊎ Circular path
  unfolding IsDistinct
  apart [] chained = inl tt
  apart (x ∷ rest) chained = by (list_any (λ p. p == x) rest) refl (apart rest (path_tail meanings x rest chained))
    where
      by : (b : Bool) → list_any (λ p. p == x) rest ≡ b → IsDistinct nat_eq rest ⊎ Circular rest → IsDistinct nat_eq (x ∷ rest) ⊎ Circular (x ∷ rest)
      by true e more = inr (record { name = x; among = rw (same x) refl; back = leads_from_reaches meanings (length rest) x x (path_reaches meanings x rest chained x e) })
        where
          same : (n : ℕ) → (n == n) ≡ true
          same n = search rules
      by false e (inl distinct) = inl (none_equal meanings x rest e, distinct)
      by false e (inr c) = inr (record { name = c.name; among = either (x == c.name) c.among; back = c.back })
        where
          either : (b : Bool) → list_any (λ p. p == c.name) rest ≡ true → (b || list_any (λ p. p == c.name) rest) ≡ true
          either true h = refl
          either false h = h

  -- a name with a part that never has a value never has one
  part-never : (x z : ℕ) → list_any (λ p. p == z) (parts_at meanings x) ≡ true → (n : ℕ) → ((n : ℕ) → value_at n meanings z ≡ None) → value_at n meanings x ≡ None
  unfolding value_at
  part-never x z among zero none = refl
  part-never x z among (suc n) none = of (slice_get meanings x) refl among
    where
      of : (o : Option Meaning) → slice_get meanings x ≡ o → list_any (λ p. p == z) (option_map_or parts_of o []) ≡ true → option_and_then (denotation_of (value_at n meanings) x) o ≡ None
      of None q h = refl
      of (Some m) q h = missing-part (value_at n meanings) z (none n) x m h

  -- a name that leads to one that never has a value never has one
  led : (path : List ℕ) (x y : ℕ) → IsChain meanings (x ∷ path) → list_any (λ p. p == y) (x ∷ path) ≡ true → ((n : ℕ) → value_at n meanings y ≡ None)
      → (n : ℕ) → value_at n meanings x ≡ None
  unfolding IsChain
  led [] x y chained among none n = by (x == y) refl among
    where
      by : (b : Bool) → (x == y) ≡ b → (b || false) ≡ true → value_at n meanings x ≡ None
      by true e h = ap (value_at n meanings) (eqb-true x y e) ∙ none n
      by false e h = cc
  led (z ∷ path) x y chained among none n = by (x == y) refl among (led path z y chained.1) n
    where
      by : (b : Bool) → (x == y) ≡ b → (b || list_any (λ p. p == y) (z ∷ path)) ≡ true
          → (list_any (λ p. p == y) (z ∷ path) ≡ true → ((n : ℕ) → value_at n meanings y ≡ None) → (n : ℕ) → value_at n meanings z ≡ None)
          → (n : ℕ) → value_at n meanings x ≡ None
      by true e h rest n = ap (value_at n meanings) (eqb-true x y e) ∙ none n
      by false e h rest n = part-never x z chained.0 n (rest h none)

  next-none : (n k : ℕ) → ((m : ℕ) → value_at m meanings k ≡ None) → denotation_next (value_at n meanings) meanings k ≡ None
  unfolding value_at
  next-none n k never = never (suc n)

  next-more : (n k : ℕ) (d : Denotation) → value_at n meanings k ≡ Some d → denotation_next (value_at n meanings) meanings k ≡ Some d
  unfolding value_at
  next-more n k d e = (value_at-more meanings n).at k d e

  module _ (inside : StaysInside meanings) where
    -- a name that has no value after as many rounds as there are names never has one
    pub never : (k : ℕ) → k < length meanings → value_at (length meanings) meanings k ≡ None → (n : ℕ) → value_at n meanings k ≡ None
    never k lt e n = by (apart (k ∷ (chain meanings inside (length meanings) k lt e).rest) (chain meanings inside (length meanings) k lt e).path)
      where
        by : IsDistinct nat_eq (k ∷ (chain meanings inside (length meanings) k lt e).rest) ⊎ Circular (k ∷ (chain meanings inside (length meanings) k lt e).rest) → value_at n meanings k ≡ None
        by (inl distinct) =
            let c = chain meanings inside (length meanings) k lt e in
            let long = c.long in
            let short : length (k ∷ c.rest) ≤ length meanings = length-le_from_distinct_below (k ∷ c.rest) (length meanings) distinct c.inside in
            absurd (omega arith)
        by (inr c) =
            led (chain meanings inside (length meanings) k lt e).rest k c.name (chain meanings inside (length meanings) k lt e).path c.among (λ m. circle-none meanings m c.name c.back) n

    -- one round more changes nothing
    pub saturated : (k : ℕ) → denotation_next (value_at (length meanings) meanings) meanings k ≡ value_at (length meanings) meanings k
    saturated k = by (nat_lt k (length meanings)) refl (value_at (length meanings) meanings k) refl
      where
        by : (b : Bool) → nat_lt k (length meanings) ≡ b → (o : Option Denotation) → value_at (length meanings) meanings k ≡ o
            → denotation_next (value_at (length meanings) meanings) meanings k ≡ value_at (length meanings) meanings k
        by b e (Some d) q = next-more (length meanings) k d q ∙ sym q
        by true e None q = next-none (length meanings) k (never k (ltb-true k (length meanings) e) q) ∙ sym q
        by false e None q =
            let past : length meanings ≤ k = ltb-false k (length meanings) e in
            (rw (slice_get_past meanings k past) refl) ∙ sym q
