-- What names denote are objects of the game, at least one.
use Rattle.std.proofs.Common.{◌≡◌, ℕ, ◌<◌, ◌≤◌, ◌+◌, zero, suc, Bool, true, false, List, [], ◌∷◌, ◌++◌, length, map, refl, subst, arith, length-append, get_or}
use Rattle.std.specs.Prelude.{Option, Some, None, option_and_then, option_map, slice_get, if◌then◌else◌, codes, ◌==◌}
use Rattle.std.specs.List.{All, list_any, filter_map, range_with_len}
use Rattle.std.specs.Str.{bytes_eq}
use Rattle.std.proofs.lemmas.List.Elements.{All-nil, All-cons, All-append, All-map, All-head, All-tail, All-get_or, All-weaker}
use Rattle.std.proofs.lemmas.List.{length-map}
use Rattle.std.proofs.lemmas.Option.{slice_get_within, get_or_from_slice_get}
use Rattle.pz_text.specs.Words.{names_of}
use Rattle.pz_text.specs.declared.line.Line.{Line}
use Rattle.pz_names.specs.Legend.{joint_names, said_by, defined_by, definition_of, definitions_of, sides}
use Rattle.pz_names.specs.Meaning.{number_or_end, meaning_by, object_meanings}
use Rattle.pz_names.specs.Denotation.{with_mention, with_mentions, members_of_parts, denotation_of, value_at, values_of}
use Rattle.pz_names.specs.Values.{names_of_source, meanings_of_source}
use Rattle.pz_game.specs.Denotation.{IsDenoted}
use Rattle.pz_names.specs.declared.name_line.NameLine.{NameLine}
use Rattle.pz_names.specs.declared.legend.Said.{Said}
use Rattle.pz_names.specs.declared.legend.Said.TheVariants as said
use Rattle.pz_names.specs.declared.legend.Definition.{Definition}
use Rattle.pz_names.specs.declared.meaning.Meaning.{Meaning}
use Rattle.pz_names.specs.declared.meaning.Meaning.TheVariants.{Itself, Same, AllOf, AnyOf}
use Rattle.pz_game.specs.declared.denotation.Denotation.{Denotation}
use Rattle.pz_game.specs.declared.denotation.Kind.{Kind}
use Rattle.pz_game.specs.declared.denotation.Kind.TheVariants.{Aggregate, Property}

-- a line of which the name can denote objects: an object of the game, or parts of which there is one
abbrev IsMeant : ℕ → Meaning → Type 0
IsMeant count (Itself place first) = place < count
IsMeant count (Same other) = Unit {0}
IsMeant count (AllOf parts) = 0 < length parts
IsMeant count (AnyOf parts) = 0 < length parts

module _ (count : ℕ) where
  mention-inside : (mentions : List ℕ) (x : ℕ) → All (λ o. o < count) mentions → x < count → All (λ o. o < count) (with_mention mentions x)
  mention-inside mentions x all lt = by (list_any (λ other. other == x) mentions)
    where
      by : (b : Bool) → All (λ o. o < count) (if b then mentions else mentions ++ x ∷ [])
      by true = all
      by false = All-append (λ o. o < count) mentions (x ∷ []) all (All-cons (λ o. o < count) x [] lt (All-nil (λ o. o < count)))

  mention-some : (mentions : List ℕ) (x : ℕ) → 0 < length (with_mention mentions x)
  mention-some mentions x = by (list_any (λ other. other == x) mentions) refl
    where
      by : (b : Bool) → list_any (λ other. other == x) mentions ≡ b → 0 < length (if b then mentions else mentions ++ x ∷ [])
      by false e = let long = length-append mentions (x ∷ []) in omega arith
      by true e = some mentions e
        where
          some : (ms : List ℕ) → list_any (λ other. other == x) ms ≡ true → 0 < length ms
          some [] h = cc
          some (m ∷ ms) h = omega arith

  mentions-inside : (mentions more : List ℕ) → All (λ o. o < count) mentions → All (λ o. o < count) more → All (λ o. o < count) (with_mentions mentions more)
  mentions-inside mentions [] all next = all
  mentions-inside mentions (x ∷ more) all next =
      mentions-inside (with_mention mentions x) more (mention-inside mentions x all (All-head (λ o. o < count) x more next)) (All-tail (λ o. o < count) x more next)

  mentions-keep : (mentions more : List ℕ) → 0 < length mentions → 0 < length (with_mentions mentions more)
  mentions-keep mentions [] some = some
  mentions-keep mentions (x ∷ more) some = mentions-keep (with_mention mentions x) more (mention-some mentions x)

  mentions-some : (mentions more : List ℕ) → 0 < length more → 0 < length (with_mentions mentions more)
  mentions-some mentions [] some = absurd (omega arith)
  mentions-some mentions (x ∷ more) some = mentions-keep (with_mention mentions x) more (mention-some mentions x)

  -- where each known name denotes objects
  module _ (known : ℕ → Option Denotation) (each : (k : ℕ) (d : Denotation) → known k ≡ Some d → IsDenoted count d) where
    gathered-inside : (mentions parts ms : List ℕ) → All (λ o. o < count) mentions → members_of_parts known mentions parts ≡ Some ms → All (λ o. o < count) ms
    gathered-inside mentions [] ms all e = let is : mentions ≡ ms = cc in subst (λ (m : List ℕ). All (λ o. o < count) m) is all
    gathered-inside mentions (part ∷ parts) ms all e = by (known part) refl e (λ m h k. gathered-inside m parts ms h k)
      where
        by : (o : Option Denotation) → known part ≡ o → option_and_then (λ d. members_of_parts known (with_mentions mentions d.members) parts) o ≡ Some ms
            → ((m : List ℕ) → All (λ o. o < count) m → members_of_parts known m parts ≡ Some ms → All (λ o. o < count) ms) → All (λ o. o < count) ms
        by None q h rest = cc
        by (Some d) q h rest = rest (with_mentions mentions d.members) (mentions-inside mentions d.members all (each part d q).all) h

    gathered-keep : (mentions parts ms : List ℕ) → 0 < length mentions → members_of_parts known mentions parts ≡ Some ms → 0 < length ms
    gathered-keep mentions [] ms some e = let is : mentions ≡ ms = cc in subst (λ (m : List ℕ). 0 < length m) is some
    gathered-keep mentions (part ∷ parts) ms some e = by (known part) e (λ m h k. gathered-keep m parts ms h k)
      where
        by : (o : Option Denotation) → option_and_then (λ d. members_of_parts known (with_mentions mentions d.members) parts) o ≡ Some ms
            → ((m : List ℕ) → 0 < length m → members_of_parts known m parts ≡ Some ms → 0 < length ms) → 0 < length ms
        by None h rest = cc
        by (Some d) h rest = rest (with_mentions mentions d.members) (mentions-keep mentions d.members some) h

    gathered-some : (parts ms : List ℕ) → 0 < length parts → members_of_parts known [] parts ≡ Some ms → 0 < length ms
    gathered-some [] ms some e = absurd (omega arith)
    gathered-some (part ∷ parts) ms some e = by (known part) refl e
      where
        by : (o : Option Denotation) → known part ≡ o → option_and_then (λ d. members_of_parts known (with_mentions [] d.members) parts) o ≡ Some ms → 0 < length ms
        by None q h = cc
        by (Some d) q h = gathered-keep (with_mentions [] d.members) parts ms (mentions-some [] d.members (each part d q).some) h

    joined-denoted : (kind : Kind) (number : ℕ) (parts : List ℕ) (d : Denotation) → 0 < length parts → (o : Option (List ℕ)) → members_of_parts known [] parts ≡ o
        → option_map (λ ms. record { kind = kind; members = ms; number = number }) o ≡ Some d → IsDenoted count d
    joined-denoted kind number parts d some None q e = cc
    joined-denoted kind number parts d some (Some ms) q e =
        let members : ms ≡ d.members = cc in
        record {
          some = subst (λ m. 0 < length m) members (gathered-some parts ms some q);
          all = subst (λ (m : List ℕ). All (λ o. o < count) m) members (gathered-inside [] parts ms (All-nil (λ o. o < count)) q);
        }

    next-denoted : (number : ℕ) (meaning : Meaning) (d : Denotation) → IsMeant count meaning → denotation_of known number meaning ≡ Some d → IsDenoted count d
    next-denoted number (Itself place first) d lt e =
        let members : place ∷ [] ≡ d.members = cc in
        record {
          some = subst (λ (m : List ℕ). 0 < length m) members (omega arith);
          all = subst (λ (m : List ℕ). All (λ o. o < count) m) members (All-cons (λ o. o < count) place [] lt (All-nil (λ o. o < count)));
        }
    next-denoted number (Same other) d lt e = each other d e
    next-denoted number (AllOf parts) d some e = joined-denoted Aggregate number parts d some (members_of_parts known [] parts) refl e
    next-denoted number (AnyOf parts) d some e = joined-denoted Property number parts d some (members_of_parts known [] parts) refl e

  -- where each line can denote objects, each name that has a value does
  pub value-denoted : (meanings : List Meaning) → All (IsMeant count) meanings → (n k : ℕ) (d : Denotation) → value_at n meanings k ≡ Some d → IsDenoted count d
  unfolding value_at
  value-denoted meanings meant zero k d e = cc
  value-denoted meanings meant (suc n) k d e = by (slice_get meanings k) refl e (value-denoted meanings meant n)
    where
      by : (o : Option Meaning) → slice_get meanings k ≡ o → option_and_then (denotation_of (value_at n meanings) k) o ≡ Some d
          → ((j : ℕ) (v : Denotation) → value_at n meanings j ≡ Some v → IsDenoted count v) → IsDenoted count d
      by None q h each = cc
      by (Some m) q h each =
          let here : IsMeant count (get_or meanings k m) = All-get_or (IsMeant count) meanings k m (slice_get_within meanings k m q) meant in
          next-denoted (value_at n meanings) each k m d (subst (IsMeant count) (get_or_from_slice_get meanings k m m q) here) h

-- the lines of OBJECTS are of objects of the game
objects-meant : (count place first : ℕ) (objects : List NameLine) → place + length objects ≤ count → All (IsMeant count) (object_meanings place first objects)
objects-meant count place first [] room = All-nil (IsMeant count)
objects-meant count place first (line ∷ lines) room =
    All-append (IsMeant count) (map (λ name. Itself place first) line.names) (object_meanings (place + 1) (first + length line.names) lines)
    (each line.names) (objects-meant count (place + 1) (first + length line.names) lines (omega arith))
  where
    each : (names : List (List ℕ)) → All (IsMeant count) (map (λ name. Itself place first) names)
    each [] = All-nil (IsMeant count)
    each (name ∷ names) = All-cons (IsMeant count) (Itself place first) (map (λ name. Itself place first) names) (omega arith) (each names)

-- the right side of a line of LEGEND has a name
joined-some : (joint : List ℕ) (before parts r : List (List ℕ)) → joint_names joint before parts ≡ Some r → 0 < length r
joined-some joint before [] r e = cc
joined-some joint before (part ∷ []) r e =
    let long = length-append before (part ∷ []) in
    let is : before ++ part ∷ [] ≡ r = cc in
    subst (λ (p : List (List ℕ)). 0 < length p) is (omega arith)
joined-some joint before (part ∷ other ∷ more) r e = by (bytes_eq other joint) e (joined-some joint (before ++ part ∷ []) more r)
  where
    by : (b : Bool) → (if b then joint_names joint (before ++ part ∷ []) more else None) ≡ Some r → (joint_names joint (before ++ part ∷ []) more ≡ Some r → 0 < length r) → 0 < length r
    by true h rest = rest h
    by false h rest = cc

abbrev SaysSome : Said → Type 0
SaysSome (said.Same name) = Unit {0}
SaysSome (said.AllOf parts) = 0 < length parts
SaysSome (said.AnyOf parts) = 0 < length parts

said-some : (right : List (List ℕ)) (s : Said) → said_by right ≡ Some s → SaysSome s
said-some [] s e = cc
said-some (only ∷ []) s e = let is : said.Same only ≡ s = cc in subst SaysSome is tt
said-some (part ∷ joint ∷ more) s e = by (bytes_eq joint (codes "and")) e
  where
    all : (o : Option (List (List ℕ))) → joint_names (codes "and") [] (part ∷ joint ∷ more) ≡ o → option_map (λ parts. said.AllOf parts) o ≡ Some s → SaysSome s
    all None q h = cc
    all (Some r) q h = let is : said.AllOf r ≡ s = cc in subst SaysSome is (joined-some (codes "and") [] (part ∷ joint ∷ more) r q)

    any : (o : Option (List (List ℕ))) → joint_names (codes "or") [] (part ∷ joint ∷ more) ≡ o → option_map (λ parts. said.AnyOf parts) o ≡ Some s → SaysSome s
    any None q h = cc
    any (Some r) q h = let is : said.AnyOf r ≡ s = cc in subst SaysSome is (joined-some (codes "or") [] (part ∷ joint ∷ more) r q)

    by : (b : Bool) → (if b then option_map (λ parts. said.AllOf parts) (joint_names (codes "and") [] (part ∷ joint ∷ more)) else option_map (λ parts. said.AnyOf parts) (joint_names (codes "or") [] (part ∷ joint ∷ more))) ≡ Some s
        → SaysSome s
    by true h = all (joint_names (codes "and") [] (part ∷ joint ∷ more)) refl h
    by false h = any (joint_names (codes "or") [] (part ∷ joint ∷ more)) refl h

defined-some : (number : ℕ) (left right : List (List ℕ)) (d : Definition) → defined_by number left right ≡ Some d → SaysSome d.said
defined-some number [] right d e = cc
defined-some number (name ∷ other ∷ more) right d e = cc
defined-some number (name ∷ []) right d e = by (said_by right) refl e
  where
    by : (o : Option Said) → said_by right ≡ o → option_map (λ s. record { number = number; name = name; said = s }) o ≡ Some d → SaysSome d.said
    by None q h = cc
    by (Some s) q h = let is : s ≡ d.said = cc in subst SaysSome is (said-some right s q)

definition-some : (line : Line) (d : Definition) → definition_of line ≡ Some d → SaysSome d.said
definition-some line d e = by (sides line.text) e
  where
    by : (o : Option (List ℕ × List ℕ)) → option_and_then (λ both. defined_by line.number (names_of both.0) (names_of both.1)) o ≡ Some d → SaysSome d.said
    by None h = cc
    by (Some both) h = defined-some line.number (names_of both.0) (names_of both.1) d h

definitions-some : (lines : List Line) → All (λ (d : Definition). SaysSome d.said) (definitions_of lines)
definitions-some [] = All-nil (λ (d : Definition). SaysSome d.said)
definitions-some (line ∷ lines) = by (definition_of line) refl (definitions-some lines)
  where
    by : (o : Option Definition) → definition_of line ≡ o → All (λ (d : Definition). SaysSome d.said) (definitions_of lines) → All (λ (d : Definition). SaysSome d.said) (definitions_of (line ∷ lines))
    by None q rest = rw q rest
    by (Some d) q rest = rw q (All-cons (λ (e : Definition). SaysSome e.said) d (definitions_of lines) (definition-some line d q) rest)

said-meant : (count : ℕ) (names : List (List ℕ)) (s : Said) → SaysSome s → IsMeant count (meaning_by names s)
said-meant count names (said.Same name) h = tt
said-meant count names (said.AllOf parts) h = let long = length-map parts (number_or_end names) in omega arith
said-meant count names (said.AnyOf parts) h = let long = length-map parts (number_or_end names) in omega arith

module _ (objects : List NameLine) (lines : List Line) where
  source-meant : All (IsMeant (length objects)) (meanings_of_source objects (definitions_of lines))
  source-meant =
      let count = length objects in
      let names = names_of_source objects (definitions_of lines) in
      let definitions = definitions_of lines in
      All-append (IsMeant count) (object_meanings 0 0 objects) (map (λ d. meaning_by names d.said) definitions)
      (objects-meant count 0 0 objects (omega arith))
      (All-map (IsMeant count) (λ (d : Definition). meaning_by names d.said) definitions
      (All-weaker (λ (d : Definition). SaysSome d.said) (λ (d : Definition). IsMeant count (meaning_by names d.said)) (λ d h. said-meant count names d.said h) definitions (definitions-some lines)))

  -- each value is of objects of the game
  pub values-denoted : All (IsDenoted (length objects)) (values_of (meanings_of_source objects (definitions_of lines)))
  values-denoted = from (length meanings) 0
    where
      meanings : List Meaning
      meanings = meanings_of_source objects (definitions_of lines)

      from : (n s : ℕ) → All (IsDenoted (length objects)) (filter_map (value_at (length (meanings_of_source objects (definitions_of lines))) (meanings_of_source objects (definitions_of lines))) (range_with_len s n))
      from zero s = All-nil (IsDenoted (length objects))
      from (suc n) s = by (value_at (length (meanings_of_source objects (definitions_of lines))) (meanings_of_source objects (definitions_of lines)) s) refl (from n (s + 1))
        where
          f : ℕ → Option Denotation
          f = value_at (length (meanings_of_source objects (definitions_of lines))) (meanings_of_source objects (definitions_of lines))

          by : (o : Option Denotation) → value_at (length (meanings_of_source objects (definitions_of lines))) (meanings_of_source objects (definitions_of lines)) s ≡ o
              → All (IsDenoted (length objects)) (filter_map (value_at (length (meanings_of_source objects (definitions_of lines))) (meanings_of_source objects (definitions_of lines))) (range_with_len (s + 1) n))
              → All (IsDenoted (length objects)) (filter_map (value_at (length (meanings_of_source objects (definitions_of lines))) (meanings_of_source objects (definitions_of lines))) (range_with_len s (suc n)))
          by None q rest = rw q rest
          by (Some d) q rest =
              rw q (All-cons (IsDenoted (length objects)) d (filter_map (value_at (length (meanings_of_source objects (definitions_of lines))) (meanings_of_source objects (definitions_of lines))) (range_with_len (s + 1) n))
              (value-denoted (length objects) (meanings_of_source objects (definitions_of lines)) source-meant (length (meanings_of_source objects (definitions_of lines))) s d q) rest)
