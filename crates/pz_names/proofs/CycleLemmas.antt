-- Lines without a cycle: every name has a value.
use Rattle.std.proofs.Common.{◌≡◌, ◌≢◌, ℕ, ◌<◌, ◌≤◌, ◌+◌, ◌-◌, zero, suc, Bool, true, false, ◌||◌, List, [], ◌∷◌, length, refl, ap, sym, subst, ◌∙◌, arith, rules, true≢false}
use Rattle.std.specs.Prelude.{Option, Some, None, option_and_then, option_map, is_some, slice_get, nat_eq, ◌==◌}
use Rattle.std.proofs.lemmas.Option.{slice_get-get_or}
use Rattle.std.proofs.lemmas.Bool.{eqb-true, eq-eqb}
use Rattle.std.specs.Option.{option_map_or}
use Rattle.std.proofs.lemmas.Map.Steps.{length-le_from_distinct_below}
use Rattle.std.specs.List.{list_any, IsDistinct, AllByRecursion}
use Rattle.pz_names.specs.Cycles.{reaches, is_on_cycle, IsChain}
use Rattle.pz_names.specs.Denotation.{value_at, denotation_of, members_of_parts, with_mentions}
use Rattle.pz_names.specs.Meaning.{parts_of, parts_at}
use Rattle.pz_game.specs.declared.denotation.Kind.{Kind}
use Rattle.pz_game.specs.declared.denotation.Kind.TheVariants.{Property, Aggregate}
use Rattle.pz_names.specs.declared.meaning.Meaning.{Meaning}
use Rattle.pz_names.specs.declared.meaning.Meaning.TheVariants.{Itself, Same, AllOf, AnyOf}
use Rattle.pz_game.specs.declared.denotation.Denotation.{Denotation}

-- a part that is not known
pub record Unknown (f : ℕ → Option Denotation) (parts : List ℕ) : Type 0 where
  pub part : ℕ
  pub among : list_any (λ p. p == part) parts ≡ true
  pub none : f part ≡ None

pub same_self : (n : ℕ) → (n == n) ≡ true
same_self n = search rules

pub or_true : (b : Bool) → (b || true) ≡ true
or_true true = refl
or_true false = refl

later : (f : ℕ → Option Denotation) (p : ℕ) (ps : List ℕ) → Unknown f ps → Unknown f (p ∷ ps)
later f p ps u = record { part = u.part; among = rw u.among (or_true (p == u.part)); none = u.none }

-- where the members of the parts can't be gathered, a part is not known
gathered-none : (f : ℕ → Option Denotation) (mentions parts : List ℕ) → members_of_parts f mentions parts ≡ None → Unknown f parts
gathered-none f mentions [] e = cc
gathered-none f mentions (part ∷ parts) e = by (f part) refl e (λ m h. gathered-none f m parts h)
  where
    by : (o : Option Denotation) → f part ≡ o → option_and_then (λ d. members_of_parts f (with_mentions mentions d.members) parts) o ≡ None
        → ((m : List ℕ) → members_of_parts f m parts ≡ None → Unknown f parts) → Unknown f (part ∷ parts)
    by None q h more = record { part = part; among = rw (same_self part) refl; none = q }
    by (Some d) q h more = later f part parts (more (with_mentions mentions d.members) h)

joined-none : (f : ℕ → Option Denotation) (kind : Kind) (number : ℕ) (parts : List ℕ) (o : Option (List ℕ)) → members_of_parts f [] parts ≡ o
    → option_map (λ ms. let d : Denotation = record { kind = kind; members = ms; number = number } in d) o ≡ None → Unknown f parts
joined-none f kind number parts None q e = gathered-none f [] parts q
joined-none f kind number parts (Some ms) q e = cc

-- a member of a list that passes the test makes it pass
eqb_flip : (x y : ℕ) → (y == x) ≡ false → nat_eq x y ≡ false
eqb_flip x y e = by (nat_eq x y) refl
  where
    by : (b : Bool) → nat_eq x y ≡ b → nat_eq x y ≡ false
    by false q = q
    by true q = absurd (true≢false (sym (eq-eqb y x (sym (eqb-true x y q))) ∙ e))

slice_get_is_some : {X : Type 0} (xs : List X) (k : ℕ) → k < length xs → is_some (slice_get xs k) ≡ true
slice_get_is_some [] k lt = absurd (omega arith)
slice_get_is_some (x ∷ xs) k lt = ap is_some (slice_get-get_or (x ∷ xs) k x lt)

no_none : true ≡ false → ⊥
no_none = true≢false

pub any_from_member : (q : ℕ → Bool) (parts : List ℕ) (y : ℕ) → list_any (λ p. p == y) parts ≡ true → q y ≡ true → list_any q parts ≡ true
any_from_member q [] y there passes = there
any_from_member q (p ∷ ps) y there passes = by (p == y) refl there (λ h. any_from_member q ps y h passes)
  where
    by : (b : Bool) → (p == y) ≡ b → (b || list_any (λ x. x == y) ps) ≡ true → (list_any (λ x. x == y) ps ≡ true → list_any q ps ≡ true)
        → (q p || list_any q ps) ≡ true
    by true e h rest = rw (eqb-true p y e, passes) refl
    by false e h rest = rw (rest h) (or_true (q p))

pub list_any-mono : (q r : ℕ → Bool) → ((p : ℕ) → q p ≡ true → r p ≡ true) → (ps : List ℕ) → list_any q ps ≡ true → list_any r ps ≡ true
list_any-mono q r le [] h = h
list_any-mono q r le (p ∷ ps) h = by (q p) refl h (list_any-mono q r le ps)
  where
    by : (b : Bool) → q p ≡ b → (b || list_any q ps) ≡ true → (list_any q ps ≡ true → list_any r ps ≡ true) → (r p || list_any r ps) ≡ true
    by true e k rest = rw (le p e) refl
    by false e k rest = rw (rest k) (or_true (r p))

pub or_mono : (a b c : Bool) → (b ≡ true → c ≡ true) → (a || b) ≡ true → (a || c) ≡ true
or_mono true b c h e = refl
or_mono false b c h e = h e

module _ (meanings : List Meaning) where
  -- more steps reach no less
  reaches_more : (n from to : ℕ) → reaches n meanings from to ≡ true → reaches (suc n) meanings from to ≡ true
  unfolding reaches
  reaches_more zero from to h = cc
  reaches_more (suc n) from to h =
      list_any-mono (λ p. p == to || reaches n meanings p to) (λ p. p == to || reaches (suc n) meanings p to)
      (λ p. or_mono (p == to) (reaches n meanings p to) (reaches (suc n) meanings p to) (reaches_more n p to)) (parts_at meanings from) h

  pub reaches_within : (d n from to : ℕ) → reaches n meanings from to ≡ true → reaches (d + n) meanings from to ≡ true
  reaches_within zero n from to h = subst (λ k. reaches k meanings from to ≡ true) (let e : n ≡ 0 + n = omega arith in e) h
  reaches_within (suc d) n from to h =
      subst (λ k. reaches k meanings from to ≡ true) (let e : suc (d + n) ≡ suc d + n = omega arith in e)
      (reaches_more (d + n) from to (reaches_within d n from to h))

  -- a path leads from its first number to each other
  pub path_reaches : (x : ℕ) (rest : List ℕ) → IsChain meanings (x ∷ rest) → (t : ℕ) → list_any (λ p. p == t) rest ≡ true → reaches (length rest) meanings x t ≡ true
  unfolding reaches IsChain
  path_reaches x [] path t there = cc
  path_reaches x (y ∷ rest) path t there =
      any_from_member (λ p. p == t || reaches (length rest) meanings p t) (parts_at meanings x) y path.0
      (or_mono (y == t) (list_any (λ p. p == t) rest) (reaches (length rest) meanings y t) (path_reaches y rest path.1 t) there)

  pub path_tail : (x : ℕ) (rest : List ℕ) → IsChain meanings (x ∷ rest) → IsChain meanings rest
  unfolding IsChain
  path_tail x [] path = tt
  path_tail x (y ∷ rest) path = path.1

  pub none_equal : (x : ℕ) (ys : List ℕ) → list_any (λ p. p == x) ys ≡ false → AllByRecursion (λ y. nat_eq x y ≡ false) ys
  none_equal x [] e = tt
  none_equal x (y ∷ ys) e = by (y == x) refl e (none_equal x ys)
    where
      by : (b : Bool) → (y == x) ≡ b → (b || list_any (λ p. p == x) ys) ≡ false
          → (list_any (λ p. p == x) ys ≡ false → AllByRecursion (λ y. nat_eq x y ≡ false) ys)
          → (nat_eq x y ≡ false) × AllByRecursion (λ y. nat_eq x y ≡ false) ys
      by true q h rest = cc
      by false q h rest = (search (rules, eqb_flip), rest h)

  -- where no name reaches itself, a path names none twice
  path_distinct : (n : ℕ) → ((x : ℕ) → reaches n meanings x x ≡ false) → (path : List ℕ) → length path ≤ n + 1 → IsChain meanings path → IsDistinct nat_eq path
  unfolding IsDistinct
  path_distinct n acyclic [] short path = tt
  path_distinct n acyclic (x ∷ rest) short path =
      (none_equal x rest (by (list_any (λ p. p == x) rest) refl), path_distinct n acyclic rest (omega arith) (path_tail x rest path))
    where
      by : (b : Bool) → list_any (λ p. p == x) rest ≡ b → list_any (λ p. p == x) rest ≡ false
      by false e = e
      by true e =
          let here = path_reaches x rest path x e in
          let far = reaches_within (n - length rest) (length rest) x x here in
          let n_is : (n - length rest) + length rest ≡ n = omega arith in
          absurd (true≢false (sym (subst (λ k. reaches k meanings x x ≡ true) n_is far) ∙ acyclic x))

  -- the right side of a line without a value has a part without one
  stuck : (m k : ℕ) → k < length meanings → value_at (suc m) meanings k ≡ None → Unknown (value_at m meanings) (parts_at meanings k)
  unfolding value_at
  stuck m k lt e = by (slice_get meanings k) refl e
    where
      by : (o : Option Meaning) → slice_get meanings k ≡ o → option_and_then (denotation_of (value_at m meanings) k) o ≡ None
          → Unknown (value_at m meanings) (option_map_or parts_of o [])
      by None q h = absurd (no_none (sym (slice_get_is_some meanings k lt) ∙ ap is_some q))
      by (Some (Itself place first)) q h = cc
      by (Some (Same other)) q h = record { part = other; among = rw (same_self other) refl; none = h }
      by (Some (AllOf parts)) q h = joined-none (value_at m meanings) Aggregate k parts (members_of_parts (value_at m meanings) [] parts) refl h
      by (Some (AnyOf parts)) q h = joined-none (value_at m meanings) Property k parts (members_of_parts (value_at m meanings) [] parts) refl h

  -- a path of m steps from k
  pub record Chain (m k : ℕ) : Type 0 where
    pub rest : List ℕ
    pub long : length rest ≡ m
    pub path : IsChain meanings (k ∷ rest)
    pub inside : (q : ℕ) → list_any (nat_eq q) (k ∷ rest) ≡ true → q < length meanings

  pub chain : ((k p : ℕ) → list_any (λ q. q == p) (parts_at meanings k) ≡ true → p < length meanings)
      → (m k : ℕ) → k < length meanings → value_at m meanings k ≡ None → Chain m k
  unfolding IsChain
  chain within zero k lt e = record { rest = []; long = refl; path = tt; inside = λ q h. only q h }
    where
      only : (q : ℕ) → (nat_eq q k || false) ≡ true → q < length meanings
      only q h = by (nat_eq q k) refl h
        where
          by : (b : Bool) → nat_eq q k ≡ b → (b || false) ≡ true → q < length meanings
          by true e h = let same = eqb-true q k e in omega arith
          by false e h = cc
  chain within (suc m) k lt e =
      let u = stuck m k lt e in
      let more = chain within m u.part (within k u.part u.among) u.none in
      record {
        rest = u.part ∷ more.rest;
        long = ap suc more.long;
        path = (u.among, more.path);
        inside = λ q h. by q (u.part ∷ more.rest) (nat_eq q k) refl h (more.inside q);
      }
    where
      by : (q : ℕ) (tail : List ℕ) (b : Bool) → nat_eq q k ≡ b → (b || list_any (nat_eq q) tail) ≡ true → (list_any (nat_eq q) tail ≡ true → q < length meanings) → q < length meanings
      by q tail true e h rest = let same = eqb-true q k e in omega arith
      by q tail false e h rest = rest h

  -- where the lines lead nowhere out of the table and no name reaches itself, every name has a value
  pub value_at-some : ((k p : ℕ) → list_any (λ q. q == p) (parts_at meanings k) ≡ true → p < length meanings)
      → ((x : ℕ) → is_on_cycle meanings x ≡ false)
      → (k : ℕ) → k < length meanings → value_at (length meanings) meanings k ≢ None
  value_at-some within acyclic k lt none =
      let c = chain within (length meanings) k lt none in
      let long = c.long in
      let distinct = path_distinct (length meanings) acyclic (k ∷ c.rest) (omega arith) c.path in
      let short : length (k ∷ c.rest) ≤ length meanings = length-le_from_distinct_below (k ∷ c.rest) (length meanings) distinct c.inside in
      omega arith
