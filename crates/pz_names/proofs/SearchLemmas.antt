-- All names that a name leads to, found one after the other, each once.
use Rattle.std.proofs.Common.{◌≡◌, ℕ, ◌<◌, ◌≤◌, ◌+◌, zero, suc, Bool, true, false, ◌||◌, ◌⊎◌, inl, inr, List, [], ◌∷◌, ◌++◌, length, refl, ap, sym, ◌∙◌, subst, arith, length-append, true≢false}
use Rattle.std.specs.Prelude.{Option, Some, None, slice_get, ◌==◌, nat_eq, if◌then◌else◌}
use Rattle.std.specs.Option.{option_map_or}
use Rattle.std.specs.List.{list_any, IsDistinct, AllByRecursion}
use Rattle.std.proofs.lemmas.Bool.{eqb-true, eq-eqb}
use Rattle.std.proofs.lemmas.Bool.Decides.{nat_tests}
use Rattle.std.proofs.lemmas.Option.{slice_get_within}
use Rattle.std.proofs.lemmas.List.Folds.{list_any-append}
use Rattle.std.proofs.lemmas.Map.Steps.{length-le_from_distinct_below}
use Rattle.pz_names.specs.Meaning.{parts_at, StaysInside}
use Rattle.pz_names.specs.Denotation.{with_mention, with_mentions}
use Rattle.pz_names.specs.Cycles.{reaches, is_on_cycle, IsChain, LeadsTo, found_after}
use Rattle.pz_names.specs.declared.meaning.Meaning.{Meaning}
use Rattle.pz_names.proofs.CycleLemmas.{same_self, or_true}
use Rattle.pz_names.proofs.ChainLemmas.{Witness, witness, reaches_from_leads}
use Rattle.pz_names.proofs.QuickLemmas.{chain-more}

abbrev Has : List ℕ → ℕ → Type 0
Has found x = list_any (λ o. o == x) found ≡ true

or_from : (a b : Bool) → (a || b) ≡ true → (a ≡ true) ⊎ (b ≡ true)
or_from true b h = inl refl
or_from false b h = inr h

or_left : (a b : Bool) → a ≡ true → (a || b) ≡ true
or_left true b h = refl
or_left false b h = cc

has-left : (xs ys : List ℕ) (x : ℕ) → Has xs x → Has (xs ++ ys) x
has-left xs ys x h = list_any-append (λ o. o == x) xs ys ∙ or_left (list_any (λ o. o == x) xs) (list_any (λ o. o == x) ys) h

mention-keep : (a : List ℕ) (x y : ℕ) → Has a y → Has (with_mention a x) y
mention-keep a x y h = by (list_any (λ o. o == x) a)
  where
    by : (b : Bool) → Has (if b then a else a ++ x ∷ []) y
    by true = h
    by false = has-left a (x ∷ []) y h

mention-new : (a : List ℕ) (x : ℕ) → Has (with_mention a x) x
mention-new a x = by (list_any (λ o. o == x) a) refl
  where
    by : (b : Bool) → list_any (λ o. o == x) a ≡ b → Has (if b then a else a ++ x ∷ []) x
    by true e = e
    by false e = list_any-append (λ o. o == x) a (x ∷ []) ∙ rw (e, same_self x) refl

mention-from : (a : List ℕ) (x y : ℕ) → Has (with_mention a x) y → Has a y ⊎ (x ≡ y)
mention-from a x y h = by (list_any (λ o. o == x) a) h
  where
    last : ((x == y) || false) ≡ true → x ≡ y
    last e = of (x == y) refl e
      where
        of : (b : Bool) → (x == y) ≡ b → (b || false) ≡ true → x ≡ y
        of true q k = eqb-true x y q
        of false q k = cc

    of : Has a y ⊎ (((x == y) || false) ≡ true) → Has a y ⊎ (x ≡ y)
    of (inl l) = inl l
    of (inr r) = inr (last r)

    by : (b : Bool) → Has (if b then a else a ++ x ∷ []) y → Has a y ⊎ (x ≡ y)
    by true k = inl k
    by false k = of (or_from (list_any (λ o. o == y) a) ((x == y) || false) (sym (list_any-append (λ o. o == y) a (x ∷ [])) ∙ k))

mentions-keep : (a more : List ℕ) (y : ℕ) → Has a y → Has (with_mentions a more) y
mentions-keep a [] y h = h
mentions-keep a (x ∷ more) y h = mentions-keep (with_mention a x) more y (mention-keep a x y h)

mentions-new : (a more : List ℕ) (y : ℕ) → Has more y → Has (with_mentions a more) y
mentions-new a [] y h = cc
mentions-new a (x ∷ more) y h = by (x == y) refl h (mentions-new (with_mention a x) more y)
  where
    by : (b : Bool) → (x == y) ≡ b → (b || list_any (λ o. o == y) more) ≡ true → (Has more y → Has (with_mentions (with_mention a x) more) y) → Has (with_mentions (with_mention a x) more) y
    by true e k rest = mentions-keep (with_mention a x) more y (subst (Has (with_mention a x)) (eqb-true x y e) (mention-new a x))
    by false e k rest = rest k

mentions-from : (a more : List ℕ) (y : ℕ) → Has (with_mentions a more) y → Has a y ⊎ Has more y
mentions-from a [] y h = inl h
mentions-from a (x ∷ more) y h = by (mentions-from (with_mention a x) more y h)
  where
    of : Has a y ⊎ (x ≡ y) → Has a y ⊎ Has (x ∷ more) y
    of (inl l) = inl l
    of (inr same) = inr (or_left (x == y) (list_any (λ o. o == y) more) (eq-eqb x y same))

    right : Has more y → Has (x ∷ more) y
    right k = rw k (or_true (x == y))

    by : Has (with_mention a x) y ⊎ Has more y → Has a y ⊎ Has (x ∷ more) y
    by (inl l) = of (mention-from a x y l)
    by (inr r) = inr (right r)

-- what is found stays at its place
append-get : (xs ys : List ℕ) (j : ℕ) → j < length xs → slice_get (xs ++ ys) j ≡ slice_get xs j
append-get [] ys j lt = absurd (omega arith)
append-get (x ∷ xs) ys zero lt = refl
append-get (x ∷ xs) ys (suc j) lt = append-get xs ys j (omega arith)

mention-get : (a : List ℕ) (x j : ℕ) → j < length a → (j < length (with_mention a x)) × (slice_get (with_mention a x) j ≡ slice_get a j)
mention-get a x j lt = by (list_any (λ o. o == x) a)
  where
    by : (b : Bool) → (j < length (if b then a else a ++ x ∷ [])) × (slice_get (if b then a else a ++ x ∷ []) j ≡ slice_get a j)
    by true = (lt, refl)
    by false = let long = length-append a (x ∷ []) in (omega arith, append-get a (x ∷ []) j lt)

mentions-get : (a more : List ℕ) (j : ℕ) → j < length a → slice_get (with_mentions a more) j ≡ slice_get a j
mentions-get a [] j lt = refl
mentions-get a (x ∷ more) j lt = let m = mention-get a x j lt in mentions-get (with_mention a x) more j m.0 ∙ m.1

-- each is found once
snoc : (a : List ℕ) (x : ℕ) → IsDistinct nat_eq a → list_any (λ o. o == x) a ≡ false → IsDistinct nat_eq (a ++ x ∷ [])
unfolding IsDistinct
snoc [] x d e = (tt, tt)
snoc (y ∷ ys) x d e = by (y == x) refl e (snoc ys x d.1)
  where
    last : (zs : List ℕ) → AllByRecursion (λ z. nat_eq y z ≡ false) zs → (y == x) ≡ false → AllByRecursion (λ z. nat_eq y z ≡ false) (zs ++ x ∷ [])
    last [] all q = (q, tt)
    last (z ∷ zs) all q = (all.0, last zs all.1 q)

    by : (b : Bool) → (y == x) ≡ b → (b || list_any (λ o. o == x) ys) ≡ false → (list_any (λ o. o == x) ys ≡ false → IsDistinct nat_eq (ys ++ x ∷ [])) → IsDistinct nat_eq (y ∷ (ys ++ x ∷ []))
    by true q k rest = cc
    by false q k rest = (last ys d.0 q, rest k)

mention-distinct : (a : List ℕ) (x : ℕ) → IsDistinct nat_eq a → IsDistinct nat_eq (with_mention a x)
mention-distinct a x d = by (list_any (λ o. o == x) a) refl
  where
    by : (b : Bool) → list_any (λ o. o == x) a ≡ b → IsDistinct nat_eq (if b then a else a ++ x ∷ [])
    by true e = d
    by false e = snoc a x d e

mentions-distinct : (a more : List ℕ) → IsDistinct nat_eq a → IsDistinct nat_eq (with_mentions a more)
mentions-distinct a [] d = d
mentions-distinct a (x ∷ more) d = mentions-distinct (with_mention a x) more (mention-distinct a x d)

has-flip : (q : ℕ) (xs : List ℕ) → list_any (nat_eq q) xs ≡ true → Has xs q
has-flip q [] h = h
has-flip q (x ∷ xs) h = by (nat_eq q x) refl h (has-flip q xs)
  where
    by : (b : Bool) → nat_eq q x ≡ b → (b || list_any (nat_eq q) xs) ≡ true → (list_any (nat_eq q) xs ≡ true → Has xs q) → Has (x ∷ xs) q
    by true e k rest = or_left (x == q) (list_any (λ o. o == q) xs) (eq-eqb x q (sym (eqb-true q x e)))
    by false e k rest = rw (rest k) (or_true (x == q))

record Place (xs : List ℕ) (x : ℕ) : Type 0 where
  place : ℕ
  is : slice_get xs place ≡ Some x

place_of : (xs : List ℕ) (x : ℕ) → Has xs x → Place xs x
place_of [] x h = cc
place_of (y ∷ ys) x h = by (y == x) refl h (place_of ys x)
  where
    by : (b : Bool) → (y == x) ≡ b → (b || list_any (λ o. o == x) ys) ≡ true → (Has ys x → Place ys x) → Place (y ∷ ys) x
    by true e k rest = record { place = 0; is = ap (λ v. Some v) (eqb-true y x e) }
    by false e k rest = let p = rest k in record { place = suc p.place; is = p.is }

-- what is found after looks at the names found at the places below i
pub record IsSearch (meanings : List Meaning) (start : ℕ) (found : List ℕ) (i : ℕ) : Type 0 where
  pub sound : (x : ℕ) → list_any (λ o. o == x) found ≡ true → LeadsTo meanings start x
  pub first : (x : ℕ) → list_any (λ o. o == x) (parts_at meanings start) ≡ true → list_any (λ o. o == x) found ≡ true
  pub closed : (j x y : ℕ) → j < i → slice_get found j ≡ Some x → list_any (λ o. o == y) (parts_at meanings x) ≡ true → list_any (λ o. o == y) found ≡ true
  pub distinct : IsDistinct nat_eq found
  pub within : (x : ℕ) → list_any (λ o. o == x) found ≡ true → x < length meanings

module _ (meanings : List Meaning) (inside : StaysInside meanings) (start : ℕ) where
  pub search-start : IsSearch meanings start (with_mentions [] (parts_at meanings start)) 0
  unfolding IsChain IsDistinct
  search-start = record {
    sound = λ x h. ([], (part x h, tt));
    first = λ x h. mentions-new [] (parts_at meanings start) x h;
    closed = λ j x y lt e h. absurd (omega arith);
    distinct = mentions-distinct [] (parts_at meanings start) tt;
    within = λ x h. inside start x (part x h);
  }
    where
      part : (x : ℕ) → Has (with_mentions [] (parts_at meanings start)) x → Has (parts_at meanings start) x
      part x h = by (mentions-from [] (parts_at meanings start) x h)
        where
          by : Has [] x ⊎ Has (parts_at meanings start) x → Has (parts_at meanings start) x
          by (inl l) = cc
          by (inr r) = r

  leads-more : (z y : ℕ) → LeadsTo meanings start z → Has (parts_at meanings z) y → LeadsTo meanings start y
  leads-more z y l h = (l.0 ++ z ∷ [], subst (IsChain meanings) (ap (λ r. start ∷ r) (joined l.0)) (chain-more meanings (start ∷ l.0) z y l.1 h))
    where
      joined : (r : List ℕ) → r ++ z ∷ y ∷ [] ≡ (r ++ z ∷ []) ++ y ∷ []
      joined [] = refl
      joined (w ∷ ws) = ap (λ t. w ∷ t) (joined ws)

  pub search-step : (found : List ℕ) (i : ℕ) → IsSearch meanings start found i → IsSearch meanings start (found_after meanings i found) (i + 1)
  search-step found i s = by (slice_get found i) refl
    where
      at_end : slice_get found i ≡ None → (j x y : ℕ) → j < i + 1 → slice_get found j ≡ Some x → Has (parts_at meanings x) y → (b : Bool) → (j == i) ≡ b → Has found y
      at_end none j x y lt e h true q = let gone : slice_get found j ≡ None = ap (slice_get found) (eqb-true j i q) ∙ none in cc
      at_end none j x y lt e h false q = s.closed j x y (less j lt q) e h
        where
          less : (j : ℕ) → j < i + 1 → (j == i) ≡ false → j < i
          less j lt q = grind (arith, nat_tests)

      further : (z : ℕ) → slice_get found i ≡ Some z → (j x y : ℕ) → j < i + 1 → slice_get (with_mentions found (parts_at meanings z)) j ≡ Some x → Has (parts_at meanings x) y
          → (b : Bool) → (j == i) ≡ b → Has (with_mentions found (parts_at meanings z)) y
      further z there j x y lt e h true q =
          let here : slice_get (with_mentions found (parts_at meanings z)) i ≡ Some z = mentions-get found (parts_at meanings z) i (slice_get_within found i z there) ∙ there in
          let other : slice_get (with_mentions found (parts_at meanings z)) i ≡ Some x = ap (slice_get (with_mentions found (parts_at meanings z))) (sym (eqb-true j i q)) ∙ e in
          let same : x ≡ z = cc in
          mentions-new found (parts_at meanings z) y (subst (λ w. Has (parts_at meanings w) y) same h)
      further z there j x y lt e h false q =
          let low = slice_get_within found i z there in
          let before = less j lt q in
          mentions-keep found (parts_at meanings z) y (s.closed j x y before (sym (mentions-get found (parts_at meanings z) j (omega arith)) ∙ e) h)
        where
          less : (j : ℕ) → j < i + 1 → (j == i) ≡ false → j < i
          less j lt q = grind (arith, nat_tests)

      led : (z x : ℕ) → slice_get found i ≡ Some z → Has found x ⊎ Has (parts_at meanings z) x → LeadsTo meanings start x
      led z x there (inl l) = s.sound x l
      led z x there (inr r) = leads-more z x (s.sound z (member found i z there)) r
        where
          member : (xs : List ℕ) (i z : ℕ) → slice_get xs i ≡ Some z → Has xs z
          member [] i z e = cc
          member (w ∷ ws) zero z e = let same : w ≡ z = cc in or_left (w == z) (list_any (λ o. o == z) ws) (eq-eqb w z same)
          member (w ∷ ws) (suc i) z e = rw (member ws i z e) (or_true (w == z))

      low : (z x : ℕ) → Has found x ⊎ Has (parts_at meanings z) x → x < length meanings
      low z x (inl l) = s.within x l
      low z x (inr r) = inside z x r

      by : (o : Option ℕ) → slice_get found i ≡ o → IsSearch meanings start (option_map_or (λ next. with_mentions found (parts_at meanings next)) o found) (i + 1)
      by None none = record {
        sound = s.sound;
        first = s.first;
        closed = λ j x y lt e h. at_end none j x y lt e h (j == i) refl;
        distinct = s.distinct;
        within = s.within;
      }
      by (Some z) there = record {
        sound = λ x h. led z x there (mentions-from found (parts_at meanings z) x h);
        first = λ x h. mentions-keep found (parts_at meanings z) x (s.first x h);
        closed = λ j x y lt e h. further z there j x y lt e h (j == i) refl;
        distinct = mentions-distinct found (parts_at meanings z) s.distinct;
        within = λ x h. low z x (mentions-from found (parts_at meanings z) x h);
      }

  -- after as many looks as there are names, all are found
  module _ (found : List ℕ) (s : IsSearch meanings start found (length meanings)) where
    all_closed : (x y : ℕ) → Has found x → Has (parts_at meanings x) y → Has found y
    all_closed x y h part =
        let p = place_of found x h in
        let short : length found ≤ length meanings = length-le_from_distinct_below found (length meanings) s.distinct (λ q k. s.within q (has-flip q found k)) in
        let low = slice_get_within found p.place x p.is in
        s.closed p.place x y (omega arith) p.is part

    complete : (n from to : ℕ) → ((y : ℕ) → Has (parts_at meanings from) y → Has found y) → reaches n meanings from to ≡ true → Has found to
    unfolding reaches
    complete zero from to open_parts h = cc
    complete (suc n) from to open_parts h = by (witness (λ p. p == to || reaches n meanings p to) (parts_at meanings from) h) (λ p. complete n p to)
      where
        of : (p : ℕ) → Has found p → (b : Bool) → (p == to) ≡ b → (b || reaches n meanings p to) ≡ true
            → (((y : ℕ) → Has (parts_at meanings p) y → Has found y) → reaches n meanings p to ≡ true → Has found to) → Has found to
        of p there true e k rest = subst (Has found) (eqb-true p to e) there
        of p there false e k rest = rest (λ y part. all_closed p y there part) k

        by : Witness (λ p. p == to || reaches n meanings p to) (parts_at meanings from)
            → ((p : ℕ) → ((y : ℕ) → Has (parts_at meanings p) y → Has found y) → reaches n meanings p to ≡ true → Has found to) → Has found to
        by w rest = of w.part (open_parts w.part w.among) (w.part == to) refl w.passes (rest w.part)

    pub search-end : list_any (λ o. o == start) found ≡ is_on_cycle meanings start
    search-end = by (list_any (λ o. o == start) found) refl (is_on_cycle meanings start) refl
      where
        by : (a : Bool) → list_any (λ o. o == start) found ≡ a → (b : Bool) → is_on_cycle meanings start ≡ b → list_any (λ o. o == start) found ≡ is_on_cycle meanings start
        by true e b q = e ∙ sym (reaches_from_leads meanings start start (s.sound start e))
        by false e false q = e ∙ sym q
        by false e true q = absurd (true≢false (sym (complete (length meanings) start start s.first q) ∙ e))
