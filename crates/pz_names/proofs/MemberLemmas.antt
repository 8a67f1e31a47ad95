-- Rounds over all lines, and the chains that they follow.
use Rattle.std.proofs.Common.{◌≡◌, ℕ, ◌<◌, ◌+◌, zero, suc, List, [], ◌∷◌, ◌++◌, length, get_or, drop, drop-cons, refl, ap, sym, ◌∙◌, add-one}
use Rattle.std.specs.Prelude.{Option, Some, None, option_and_then, option_map, slice_get}
use Rattle.pz_names.specs.Denotation.{value_at, denotation_next, denotation_of, members_of_parts, known_at, with_mentions}
use Rattle.pz_game.specs.declared.denotation.Kind.{Kind}
use Rattle.pz_game.specs.declared.denotation.Kind.TheVariants.{Property, Aggregate}
use Rattle.pz_names.specs.declared.meaning.Meaning.TheVariants.{Itself, Same, AllOf, AnyOf}
use Rattle.pz_names.specs.declared.meaning.Meaning.{Meaning}
use Rattle.pz_game.specs.declared.denotation.Denotation.{Denotation}

-- one part more, of which the name is known
pub gathered-step : (known : ℕ → Option Denotation) (mentions parts : List ℕ) (i : ℕ) (d : Denotation) → i < length parts → known (get_or parts i 0) ≡ Some d
    → members_of_parts known (with_mentions mentions d.members) (drop (i + 1) parts) ≡ members_of_parts known mentions (drop i parts)
gathered-step known mentions parts i d lt named =
    let next : drop i parts ≡ get_or parts i 0 ∷ drop (i + 1) parts = drop-cons parts i 0 lt ∙ ap (λ j. get_or parts i 0 ∷ drop j parts) (sym (add-one i)) in
    rw (next, named) refl

-- a table of which no entry is known has one entry more of which nothing is known
pub known_at-more : (items : List (Option Denotation)) → ((k : ℕ) → known_at items k ≡ None) → (k : ℕ) → known_at (items ++ None ∷ []) k ≡ None
known_at-more [] empty zero = refl
known_at-more [] empty (suc k) = refl
known_at-more (x ∷ xs) empty zero = empty zero
known_at-more (x ∷ xs) empty (suc k) = known_at-more xs (λ j. empty (suc j)) k

-- where f knows a name, g says the same of it
pub record Below (f g : ℕ → Option Denotation) : Type 0 where
  pub at : (k : ℕ) (d : Denotation) → f k ≡ Some d → g k ≡ Some d

module _ (f g : ℕ → Option Denotation) (le : Below f g) where
  gathered-mono : (mentions parts r : List ℕ) → members_of_parts f mentions parts ≡ Some r → members_of_parts g mentions parts ≡ Some r
  gathered-mono mentions [] r e = e
  gathered-mono mentions (part ∷ parts) r e = by (f part) refl e (λ m h. gathered-mono m parts r h)
    where
      by : (o : Option Denotation) → f part ≡ o → option_and_then (λ d. members_of_parts f (with_mentions mentions d.members) parts) o ≡ Some r
          → ((m : List ℕ) → members_of_parts f m parts ≡ Some r → members_of_parts g m parts ≡ Some r)
          → option_and_then (λ d. members_of_parts g (with_mentions mentions d.members) parts) (g part) ≡ Some r
      by None q h more = cc
      by (Some d) q h more = rw (le.at part d q) (more (with_mentions mentions d.members) h)

  joined-mono : (kind : Kind) (number : ℕ) (parts : List ℕ) (d : Denotation) (o : Option (List ℕ)) → members_of_parts f [] parts ≡ o
      → option_map (λ ms. record { kind = kind; members = ms; number = number }) o ≡ Some d
      → option_map (λ ms. record { kind = kind; members = ms; number = number }) (members_of_parts g [] parts) ≡ Some d
  joined-mono kind number parts d None q h = cc
  joined-mono kind number parts d (Some ms) q h = rw (gathered-mono [] parts ms q) h

  denotation_of-mono : (number : ℕ) (meaning : Meaning) (d : Denotation) → denotation_of f number meaning ≡ Some d → denotation_of g number meaning ≡ Some d
  denotation_of-mono number (Itself place first) d e = e
  denotation_of-mono number (Same other) d e = le.at other d e
  denotation_of-mono number (AllOf parts) d e = joined-mono Aggregate number parts d (members_of_parts f [] parts) refl e
  denotation_of-mono number (AnyOf parts) d e = joined-mono Property number parts d (members_of_parts f [] parts) refl e

  pub denotation_next-mono : (meanings : List Meaning) → Below (denotation_next f meanings) (denotation_next g meanings)
  denotation_next-mono meanings = record { at = λ k d e. by k d (slice_get meanings k) e }
    where
      by : (k : ℕ) (d : Denotation) (o : Option Meaning) → option_and_then (denotation_of f k) o ≡ Some d → option_and_then (denotation_of g k) o ≡ Some d
      by k d None e = cc
      by k d (Some meaning) e = denotation_of-mono k meaning d e

-- an assignment that satisfies every line
pub record Satisfies (f : ℕ → Option Denotation) (meanings : List Meaning) : Type 0 where
  pub each : (k : ℕ) → denotation_next f meanings k ≡ f k

-- `value_at` is below every assignment that satisfies the lines: it is the least
pub value_at-least : (f : ℕ → Option Denotation) (meanings : List Meaning) → Satisfies f meanings → (n : ℕ) → Below (value_at n meanings) f
unfolding value_at
value_at-least f meanings s zero = record { at = λ k d e. cc }
value_at-least f meanings s (suc n) =
    let step = denotation_next-mono (value_at n meanings) f (value_at-least f meanings s n) meanings in
    record { at = λ k d e. sym (s.each k) ∙ step.at k d e }

-- longer chains keep what shorter ones give
pub value_at-more : (meanings : List Meaning) (n : ℕ) → Below (value_at n meanings) (value_at (suc n) meanings)
unfolding value_at
value_at-more meanings zero = record { at = λ k d e. cc }
value_at-more meanings (suc n) = denotation_next-mono (value_at n meanings) (value_at (suc n) meanings) (value_at-more meanings n) meanings
