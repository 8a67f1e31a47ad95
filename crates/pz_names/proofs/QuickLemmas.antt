-- What allows fewer rounds: rounds that change nothing, and names on a circle, which have no value.
use Rattle.std.proofs.Common.{◌≡◌, ◌≢◌, ℕ, zero, suc, Bool, true, false, ◌||◌, List, [], ◌∷◌, ◌++◌, length, refl, ap, subst, ◌∙◌}
use Rattle.std.specs.Prelude.{Option, Some, None, option_and_then, slice_get, ◌==◌}
use Rattle.std.proofs.lemmas.Bool.{eqb-true}
use Rattle.std.specs.Option.{option_map_or}
use Rattle.std.specs.List.{list_any}
use Rattle.pz_names.proofs.ChainLemmas.{leads_from_reaches}
use Rattle.pz_names.specs.Cycles.{is_on_cycle, IsChain, LeadsTo}
use Rattle.pz_names.specs.Denotation.{value_at, denotation_of, members_of_parts, with_mentions}
use Rattle.pz_names.specs.Meaning.{parts_of, parts_at}
use Rattle.pz_names.specs.declared.meaning.Meaning.{Meaning}
use Rattle.pz_names.specs.declared.meaning.Meaning.TheVariants.{Itself, Same, AllOf, AnyOf}
use Rattle.pz_game.specs.declared.denotation.Denotation.{Denotation}

-- where a part is not known, the members can't be gathered
gathered-missing : (f : ℕ → Option Denotation) (y : ℕ) → f y ≡ None → (mentions parts : List ℕ) → list_any (λ p. p == y) parts ≡ true → members_of_parts f mentions parts ≡ None
gathered-missing f y none mentions [] h = cc
gathered-missing f y none mentions (part ∷ parts) h = by (part == y) refl h (f part) refl (λ m k. gathered-missing f y none m parts k)
  where
    by : (b : Bool) → (part == y) ≡ b → (b || list_any (λ p. p == y) parts) ≡ true → (o : Option Denotation) → f part ≡ o
        → ((m : List ℕ) → list_any (λ p. p == y) parts ≡ true → members_of_parts f m parts ≡ None)
        → members_of_parts f mentions (part ∷ parts) ≡ None
    by b e h None q rest = rw q refl
    by true e h (Some d) q rest = let same : f part ≡ None = ap f (eqb-true part y e) ∙ none in cc
    by false e h (Some d) q rest = rw q (rest (with_mentions mentions d.members) h)

-- a name with a part that has no value has none
pub missing-part : (f : ℕ → Option Denotation) (y : ℕ) → f y ≡ None → (number : ℕ) (m : Meaning) → list_any (λ p. p == y) (parts_of m) ≡ true → denotation_of f number m ≡ None
missing-part f y none number (Itself place first) h = cc
missing-part f y none number (Same other) h = by (other == y) refl h
  where
    by : (b : Bool) → (other == y) ≡ b → (b || false) ≡ true → f other ≡ None
    by true e k = ap f (eqb-true other y e) ∙ none
    by false e k = cc
missing-part f y none number (AllOf parts) h = rw (gathered-missing f y none [] parts h) refl
missing-part f y none number (AnyOf parts) h = rw (gathered-missing f y none [] parts h) refl

module _ (meanings : List Meaning) where
  pub chain-more : (zs : List ℕ) (x y : ℕ) → IsChain meanings (zs ++ x ∷ []) → list_any (λ p. p == y) (parts_at meanings x) ≡ true → IsChain meanings (zs ++ x ∷ y ∷ [])
  unfolding IsChain
  chain-more [] x y chain h = (h, tt)
  chain-more (z ∷ []) x y chain h = (chain.0, (h, tt))
  chain-more (z ∷ w ∷ zs) x y chain h = (chain.0, chain-more (w ∷ zs) x y chain.1 h)

  -- the next name on a circle, which lies on it too
  record Next (x : ℕ) : Type 0 where
    name : ℕ
    among : list_any (λ p. p == name) (parts_at meanings x) ≡ true
    back : LeadsTo meanings name name

  next : (x : ℕ) (between : List ℕ) → IsChain meanings (x ∷ (between ++ x ∷ [])) → Next x
  unfolding IsChain
  next x [] chain = record { name = x; among = chain.0; back = ([], chain) }
  next x (y ∷ rest) chain =
      let whole : (y ∷ rest) ++ x ∷ y ∷ [] ≡ y ∷ ((rest ++ x ∷ []) ++ y ∷ []) = ap (λ r. y ∷ r) (joined rest) in
      record { name = y; among = chain.0; back = (rest ++ x ∷ [], subst (IsChain meanings) whole (chain-more (y ∷ rest) x y chain.1 chain.0)) }
    where
      joined : (r : List ℕ) → r ++ x ∷ y ∷ [] ≡ (r ++ x ∷ []) ++ y ∷ []
      joined [] = refl
      joined (z ∷ zs) = ap (λ t. z ∷ t) (joined zs)

  pub circle-none : (n x : ℕ) → LeadsTo meanings x x → value_at n meanings x ≡ None
  unfolding value_at
  circle-none zero x back = refl
  circle-none (suc n) x back =
      let w = next x back.0 back.1 in
      by w.name (circle-none n w.name w.back) (slice_get meanings x) refl w.among
    where
      by : (y : ℕ) → value_at n meanings y ≡ None → (o : Option Meaning) → slice_get meanings x ≡ o → list_any (λ p. p == y) (option_map_or parts_of o []) ≡ true
          → option_and_then (denotation_of (value_at n meanings) x) o ≡ None
      by y none None q h = refl
      by y none (Some m) q h = missing-part (value_at n meanings) y none x m h

  -- a name that reaches itself has no value, whatever the number of rounds
  pub on_cycle-none : (n x : ℕ) → is_on_cycle meanings x ≡ true → value_at n meanings x ≡ None
  on_cycle-none n x on = circle-none n x (leads_from_reaches meanings (length meanings) x x on)

  -- a name that has a value doesn't reach itself
  pub valued-off_cycle : (n x : ℕ) → value_at n meanings x ≢ None → is_on_cycle meanings x ≡ false
  valued-off_cycle n x some = by (is_on_cycle meanings x) refl
    where
      by : (b : Bool) → is_on_cycle meanings x ≡ b → is_on_cycle meanings x ≡ false
      by true e = absurd (some (on_cycle-none n x e))
      by false e = e
