-- What names denote: the least assignment of kinds and members that satisfies each line of OBJECTS and LEGEND.
use Rattle.std.specs.Prelude.{unwrap_or, ◌≡◌, ◌<◌, ◌≤◌, Bool, false, is_some, ℕ, zero, suc, ◌==◌, if◌then◌else◌, List, [], ◌∷◌, ◌++◌, length, fold, Option, Some, None, option_and_then, option_map, slice_get}
use Rattle.std.specs.List.{list_any, filter_map, range_with_len}
use Rattle.pz_game.specs.declared.denotation.Kind.TheVariants.{Object, Property, Aggregate}
use Rattle.pz_game.specs.declared.denotation.Denotation.{Denotation}
use Rattle.pz_names.specs.declared.meaning.Meaning.{Meaning}
use Rattle.pz_names.specs.declared.meaning.Meaning.TheVariants.{Itself, Same, AllOf, AnyOf}

-- one more mention: a number that is there already isn't added again
abbrev pub with_mention : List ℕ → ℕ → List ℕ
with_mention mentions number = if list_any (λ other. other == number) mentions then mentions else mentions ++ number ∷ []

-- the numbers in the order of first mention, repeats dropped
abbrev pub with_mentions : List ℕ → List ℕ → List ℕ
with_mentions mentions more = fold with_mention mentions more

-- the marks show which of the numbers below their count are mentioned
abbrev pub AreMarked : List Bool → List ℕ → Type 0
AreMarked marks mentions = (k : ℕ) → k < length marks → unwrap_or (slice_get marks k) false ≡ list_any (λ other. other == k) mentions

-- legend.members: the members of the parts in the order of first mention, if each part is known
abbrev pub members_of_parts : (ℕ → Option Denotation) → List ℕ → List ℕ → Option (List ℕ)
members_of_parts known mentions [] = Some mentions
members_of_parts known mentions (part ∷ parts) = option_and_then (λ d. members_of_parts known (with_mentions mentions d.members) parts) (known part)

-- legend.synonyms: What the line of the name of this number makes it denote; `known` has what the names on its right denote. An
-- object has itself as its only member. A synonym has the kind, the members and the number of the name that it stands for. A
-- property or an aggregate has the members of its parts, and its own number. All names of one object have the number of the
-- first of them.
abbrev pub denotation_of : (ℕ → Option Denotation) → ℕ → Meaning → Option Denotation
denotation_of known number (Itself place first) = Some (record { kind = Object; members = place ∷ []; number = first })
denotation_of known number (Same other) = known other
denotation_of known number (AllOf parts) = option_map (λ ms. record { kind = Aggregate; members = ms; number = number }) (members_of_parts known [] parts)
denotation_of known number (AnyOf parts) = option_map (λ ms. record { kind = Property; members = ms; number = number }) (members_of_parts known [] parts)

abbrev pub denotation_next : (ℕ → Option Denotation) → List Meaning → ℕ → Option Denotation
denotation_next known meanings number = option_and_then (denotation_of known number) (slice_get meanings number)

-- what a name denotes, if chains of at most this many lines lead from it to objects
unfoldable pub value_at : ℕ → List Meaning → ℕ → Option Denotation
value_at zero meanings number = None
value_at (suc n) meanings number = denotation_next (value_at n meanings) meanings number

-- what the names denote, in their order; names that denote nothing are left out
abbrev pub values_of : List Meaning → List Denotation
values_of meanings = filter_map (value_at (length meanings) meanings) (range_with_len 0 (length meanings))

-- the entry of a table at a number, if there is one
abbrev pub known_at : List (Option Denotation) → ℕ → Option Denotation
known_at table number = option_and_then (λ entry. entry) (slice_get table number)

-- whatever the first assignment gives a name, the second gives it too
abbrev pub IsBelow : (ℕ → Option Denotation) → (ℕ → Option Denotation) → Type 0
IsBelow f g = (k : ℕ) (d : Denotation) → f k ≡ Some d → g k ≡ Some d

-- what is known of a name after its line was looked at
abbrev pub known_after : (ℕ → Option Denotation) → ℕ → Meaning → Option Denotation
known_after known number meaning = if is_some (known number) then known number else denotation_of known number meaning

-- What is known after a look at the lines of the names below `count`, in order. It has all that was known before, only what the
-- lines say, and at least what they said before the look. If nothing was found, these lines say nothing new.
pub record IsRound (meanings : List Meaning) (old new : ℕ → Option Denotation) (count : ℕ) (found : Bool) : Type 0 where
  pub kept : IsBelow old new
  pub sound : (g : ℕ → Option Denotation) → ((k : ℕ) → denotation_next g meanings k ≡ g k) → IsBelow old g → IsBelow new g
  pub grown : (k : ℕ) (d : Denotation) → k < count → old k ≡ None → denotation_next old meanings k ≡ Some d → new k ≡ Some d
  pub later : (k : ℕ) → count ≤ k → new k ≡ old k
  pub same : found ≡ false → (k : ℕ) → new k ≡ old k
  pub still : found ≡ false → (k : ℕ) → k < count → old k ≡ None → denotation_next old meanings k ≡ None
