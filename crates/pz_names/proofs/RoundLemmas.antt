-- Rounds over all lines that note what names denote, in place.
use Rattle.std.proofs.Common.{◌≡◌, ◌≢◌, ℕ, ◌<◌, ◌≤◌, ◌+◌, ◌-◌, zero, suc, Bool, true, false, ◌||◌, ◌&&◌, not, List, [], ◌∷◌, ◌++◌, length, refl, ap, sym, ◌∙◌, arith, add-one, true≢false, rules, subst}
use Rattle.std.specs.Prelude.{unwrap_or, Option, Some, None, is_some, option_and_then, slice_get, ◌==◌, if◌then◌else◌, slice_set}
use Rattle.std.specs.List.{list_all, list_any}
use Rattle.std.proofs.lemmas.List.Folds.{list_any-append}
use Rattle.std.proofs.lemmas.Bool.{eqb-true, eq-eqb}
use Rattle.std.proofs.lemmas.Bool.Decides.{nat_tests}
use Rattle.std.proofs.lemmas.Option.{slice_get_within}
use Rattle.pz_names.specs.Meaning.{parts_of, StaysInside}
use Rattle.pz_names.specs.Denotation.{AreMarked, value_at, members_of_parts, with_mentions, denotation_of, denotation_next, known_at, IsBelow, known_after, IsRound}
use Rattle.pz_names.specs.declared.meaning.Meaning.{Meaning}
use Rattle.pz_names.specs.declared.meaning.Meaning.TheVariants.{Itself, Same, AllOf, AnyOf}
use Rattle.pz_game.specs.declared.denotation.Denotation.{Denotation}
use Rattle.pz_names.proofs.MemberLemmas.{Below, value_at-more, denotation_next-mono}
use Rattle.pz_names.proofs.SettledLemmas.{saturated}

-- a line of which a part is not known says nothing
gathered-unknown : (known : ℕ → Option Denotation) (mentions parts : List ℕ) → list_all (λ part. is_some (known part)) parts ≡ false → members_of_parts known mentions parts ≡ None
gathered-unknown known mentions [] h = cc
gathered-unknown known mentions (part ∷ parts) h = by (known part) refl h (λ m k. gathered-unknown known m parts k)
  where
    by : (o : Option Denotation) → known part ≡ o → (is_some o && list_all (λ p. is_some (known p)) parts) ≡ false
        → ((m : List ℕ) → list_all (λ p. is_some (known p)) parts ≡ false → members_of_parts known m parts ≡ None)
        → members_of_parts known mentions (part ∷ parts) ≡ None
    by None q h rest = rw q refl
    by (Some d) q h rest = rw q (rest (with_mentions mentions d.members) h)

pub unknown-part : (known : ℕ → Option Denotation) (number : ℕ) (meaning : Meaning) → list_all (λ part. is_some (known part)) (parts_of meaning) ≡ false → denotation_of known number meaning ≡ None
unknown-part known number (Itself place first) h = cc
unknown-part known number (Same other) h = by (known other) refl h
  where
    by : (o : Option Denotation) → known other ≡ o → (is_some o && true) ≡ false → known other ≡ None
    by None q h = q
    by (Some d) q h = cc
unknown-part known number (AllOf parts) h = rw (gathered-unknown known [] parts h) refl
unknown-part known number (AnyOf parts) h = rw (gathered-unknown known [] parts h) refl

-- where a line is not looked at, or a part is not known, nothing is noted
pub nothing-settled : (known : ℕ → Option Denotation) (number : ℕ) (meaning : Meaning) → (is_some (known number) || not (list_all (λ part. is_some (known part)) (parts_of meaning))) ≡ true
    → known_after known number meaning ≡ known number
nothing-settled known number meaning h = by (known number) refl (list_all (λ part. is_some (known part)) (parts_of meaning)) refl h
  where
    by : (o : Option Denotation) → known number ≡ o → (b : Bool) → list_all (λ part. is_some (known part)) (parts_of meaning) ≡ b → (is_some o || not b) ≡ true → known_after known number meaning ≡ known number
    by (Some d) q b e h = rw q refl
    by None q true e h = cc
    by None q false e h = rw q (unknown-part known number meaning e)

pub something-settled : (known : ℕ → Option Denotation) (number : ℕ) (meaning : Meaning) → (is_some (known number) || not (list_all (λ part. is_some (known part)) (parts_of meaning))) ≡ false
    → known_after known number meaning ≡ denotation_of known number meaning
something-settled known number meaning h = by (known number) refl h
  where
    by : (o : Option Denotation) → known number ≡ o → (is_some o || not (list_all (λ part. is_some (known part)) (parts_of meaning))) ≡ false → known_after known number meaning ≡ denotation_of known number meaning
    by (Some d) q h = cc
    by None q h = rw q refl

get-set : {A : Type 0} (xs : List A) (i : ℕ) (o : A) → i < length xs → slice_get (slice_set xs i o) i ≡ Some o
get-set [] i o lt = absurd (omega arith)
get-set (x ∷ xs) zero o lt = refl
get-set (x ∷ xs) (suc i) o lt = get-set xs i o (omega arith)

get-unset : {A : Type 0} (xs : List A) (i : ℕ) (o : A) (k : ℕ) → k ≢ i → slice_get (slice_set xs i o) k ≡ slice_get xs k
get-unset [] zero o k other = refl
get-unset [] (suc i) o k other = refl
get-unset (x ∷ xs) zero o zero other = absurd (other refl)
get-unset (x ∷ xs) zero o (suc k) other = refl
get-unset (x ∷ xs) (suc i) o zero other = refl
get-unset (x ∷ xs) (suc i) o (suc k) other = get-unset xs i o k (λ same. other (ap suc same))

-- an entry that is put into a table
pub known_at-set : (xs : List (Option Denotation)) (i : ℕ) (o : Option Denotation) → i < length xs → (k : ℕ) → known_at (slice_set xs i o) k ≡ (if k == i then o else known_at xs k)
known_at-set xs i o lt k = by (k == i) refl
  where
    by : (b : Bool) → (k == i) ≡ b → known_at (slice_set xs i o) k ≡ (if b then o else known_at xs k)
    by true e = ap (λ n. known_at (slice_set xs i o) n) (eqb-true k i e) ∙ ap (λ v. option_and_then (λ entry. entry) v) (get-set xs i o lt)
    by false e = ap (λ v. option_and_then (λ entry. entry) v) (get-unset xs i o k (λ same. true≢false (sym (eq-eqb k i same) ∙ e)))

below : {f g : ℕ → Option Denotation} → IsBelow f g → Below f g
below le = record { at = le }

module _ (meanings : List Meaning) where
  pub round-start : (f : ℕ → Option Denotation) → IsRound meanings f f 0 false
  round-start f = record {
    kept = λ k d e. e;
    sound = λ g s le. le;
    grown = λ k d lt none e. absurd (omega arith);
    later = λ k le. refl;
    same = λ h k. refl;
    still = λ h k lt none. absurd (omega arith);
  }

  -- one line more
  pub round-step : (old f new : ℕ → Option Denotation) (i : ℕ) (x : Meaning) (found noted : Bool) → IsRound meanings old f i found → slice_get meanings i ≡ Some x
      → ((k : ℕ) → new k ≡ (if k == i then known_after f i x else f k)) → (noted ≡ false → (k : ℕ) → new k ≡ f k) → IsRound meanings old new (i + 1) (noted || found)
  round-step old f new i x found noted r at each quiet = record {
    kept = λ k d e. keep k d (r.kept k d e);
    sound = λ g s le k d e. from g s (r.sound g s le) k d e (k == i) refl;
    grown = λ k d lt none e. grow k d lt none e (k == i) refl;
    later = λ k le. away k (apart k le) ∙ r.later k (omega arith);
    same = λ h k. quiet (both noted found h refl refl).0 k ∙ r.same (both noted found h refl refl).1 k;
    still = λ h k lt none. rest h k lt none (k == i) refl;
  }
    where
      less : (k : ℕ) → k < i + 1 → (k == i) ≡ false → k < i
      less k lt q = grind (arith, nat_tests)

      apart : (k : ℕ) → i + 1 ≤ k → (k == i) ≡ false
      apart k le = grind (arith, nat_tests)

      line : (h : ℕ → Option Denotation) → denotation_next h meanings i ≡ denotation_of h i x
      line h = rw at refl

      here : (k : ℕ) → (k == i) ≡ true → new k ≡ known_after f i x
      here k e = each k ∙ rw e refl

      away : (k : ℕ) → (k == i) ≡ false → new k ≡ f k
      away k e = each k ∙ rw e refl

      keep : (k : ℕ) (d : Denotation) → f k ≡ Some d → new k ≡ Some d
      keep k d e = by (k == i) refl
        where
          by : (b : Bool) → (k == i) ≡ b → new k ≡ Some d
          by false q = away k q ∙ e
          by true q = let there : f i ≡ Some d = ap f (sym (eqb-true k i q)) ∙ e in here k q ∙ rw there refl

      from : (g : ℕ → Option Denotation) → ((k : ℕ) → denotation_next g meanings k ≡ g k) → IsBelow f g → (k : ℕ) (d : Denotation) → new k ≡ Some d → (b : Bool) → (k == i) ≡ b → g k ≡ Some d
      from g s le k d e false q = le k d (sym (away k q) ∙ e)
      from g s le k d e true q = by (f i) refl (sym (here k q) ∙ e)
        where
          same : k ≡ i
          same = eqb-true k i q

          by : (o : Option Denotation) → f i ≡ o → (if is_some o then o else denotation_of f i x) ≡ Some d → g k ≡ Some d
          by (Some v) w h = ap g same ∙ le i d (w ∙ h)
          by None w h = ap g same ∙ (sym (s i) ∙ (denotation_next-mono f g (below le) meanings).at i d (line f ∙ h))

      grow : (k : ℕ) (d : Denotation) → k < i + 1 → old k ≡ None → denotation_next old meanings k ≡ Some d → (b : Bool) → (k == i) ≡ b → new k ≡ Some d
      grow k d lt none e false q = away k q ∙ r.grown k d (less k lt q) none e
      grow k d lt none e true q = by (f i) refl
        where
          same : k ≡ i
          same = eqb-true k i q

          next : denotation_next f meanings i ≡ Some d
          next = (denotation_next-mono old f (below r.kept) meanings).at i d (ap (denotation_next old meanings) (sym same) ∙ e)

          by : (o : Option Denotation) → f i ≡ o → new k ≡ Some d
          by None w = here k q ∙ rw w (sym (line f) ∙ next)
          by (Some v) w = let was : f i ≡ None = r.later i (omega arith) ∙ (ap old (sym same) ∙ none) in cc

      both : (n h : Bool) → (n || h) ≡ false → n ≡ noted → h ≡ found → (noted ≡ false) × (found ≡ false)
      both true h e p q = cc
      both false true e p q = cc
      both false false e p q = (sym p, sym q)

      rest : (noted || found) ≡ false → (k : ℕ) → k < i + 1 → old k ≡ None → (b : Bool) → (k == i) ≡ b → denotation_next old meanings k ≡ None
      rest h k lt none false q = r.still (both noted found h refl refl).1 k (less k lt q) none
      rest h k lt none true q =
          let quietly = both noted found h refl refl in
          let same : k ≡ i = eqb-true k i q in
          let functions : old ≡ f = λ j. λ m. sym (r.same quietly.1 m) j in
          let empty : f k ≡ None = r.same quietly.1 k ∙ none in
          let was : f i ≡ None = ap f (sym same) ∙ empty in
          let new_is : new k ≡ denotation_of f i x = here k q ∙ rw was refl in
          ap (λ g. denotation_next g meanings k) functions ∙ (ap (denotation_next f meanings) same ∙ (line f ∙ (sym new_is ∙ (quiet quietly.0 k ∙ empty))))

  value-within : (j n : ℕ) → IsBelow (value_at n meanings) (value_at (j + n) meanings)
  value-within zero n k d e = ap (λ m. value_at m meanings k) (let z : 0 + n ≡ n = omega arith in z) ∙ e
  value-within (suc j) n k d e = ap (λ m. value_at m meanings k) (let z : suc j + n ≡ suc (j + n) = omega arith in z) ∙ (value_at-more meanings (j + n)).at k d (value-within j n k d e)

  value-below : (n : ℕ) → n ≤ length meanings → IsBelow (value_at n meanings) (value_at (length meanings) meanings)
  value-below n le k d e = ap (λ m. value_at m meanings k) (let z : length meanings ≡ (length meanings - n) + n = omega arith in z) ∙ value-within (length meanings - n) n k d e

  next-value : (n k : ℕ) → value_at (n + 1) meanings k ≡ denotation_next (value_at n meanings) meanings k
  unfolding value_at
  next-value n k = ap (λ m. value_at m meanings k) (add-one n)

  has-line : (h : ℕ → Option Denotation) (k : ℕ) (d : Denotation) → denotation_next h meanings k ≡ Some d → k < length meanings
  has-line h k d e = by (slice_get meanings k) refl e
    where
      by : (o : Option Meaning) → slice_get meanings k ≡ o → option_and_then (denotation_of h k) o ≡ Some d → k < length meanings
      by None q w = cc
      by (Some m) q w = slice_get_within meanings k m q

  -- assignments that are below one another say the same
  pub met : (f g : ℕ → Option Denotation) → IsBelow f g → IsBelow g f → (k : ℕ) → f k ≡ g k
  met f g le ge k = by (f k) refl (g k) refl
    where
      by : (o : Option Denotation) → f k ≡ o → (p : Option Denotation) → g k ≡ p → f k ≡ g k
      by None q None w = q ∙ sym w
      by (Some d) q p w = q ∙ sym (le k d q)
      by None q (Some d) w = ge k d w ∙ sym w

  pub none-below : (f : ℕ → Option Denotation) → IsBelow (value_at 0 meanings) f
  unfolding value_at
  none-below f k d e = cc

  module _ (inside : StaysInside meanings) (f new : ℕ → Option Denotation) (found : Bool) (r : IsRound meanings f new (length meanings) found)
      (low : IsBelow f (value_at (length meanings) meanings)) where
    pub still-below : IsBelow new (value_at (length meanings) meanings)
    still-below = r.sound (value_at (length meanings) meanings) (saturated meanings inside) low

    -- a round finds what chains of one line more give
    pub more-above : (n : ℕ) → n + 1 ≤ length meanings → IsBelow (value_at n meanings) f → IsBelow (value_at (n + 1) meanings) new
    more-above n room high k d e = by (f k) refl
      where
        next : denotation_next f meanings k ≡ Some d
        next = (denotation_next-mono (value_at n meanings) f (below high) meanings).at k d (sym (next-value n k) ∙ e)

        by : (o : Option Denotation) → f k ≡ o → new k ≡ Some d
        by None q = r.grown k d (has-line f k d next) q next
        by (Some v) q = r.kept k d (q ∙ (sym (low k v q) ∙ value-below (n + 1) room k d e))

    -- where a round finds nothing, all is found
    all-above : found ≡ false → (n : ℕ) → IsBelow (value_at n meanings) f
    all-above quiet zero k d e = none-below f k d e
    all-above quiet (suc n) k d e = by (f k) refl (all-above quiet n)
      where
        by : (o : Option Denotation) → f k ≡ o → IsBelow (value_at n meanings) f → f k ≡ Some d
        by o q high = of o q ((denotation_next-mono (value_at n meanings) f (below high) meanings).at k d (sym (next-value n k) ∙ (ap (λ m. value_at m meanings k) (add-one n) ∙ e)))
          where
            of : (o : Option Denotation) → f k ≡ o → denotation_next f meanings k ≡ Some d → f k ≡ Some d
            of None q next = let none = r.still quiet k (has-line f k d next) q in cc
            of (Some v) q next = q ∙ (sym (low k v q) ∙ (sym (saturated meanings inside k) ∙ (denotation_next-mono f (value_at (length meanings) meanings) (below low) meanings).at k d next))

    pub all-found : found ≡ false → (k : ℕ) → new k ≡ value_at (length meanings) meanings k
    all-found quiet k = r.same quiet k ∙ met f (value_at (length meanings) meanings) low (all-above quiet (length meanings)) k

-- one number more is marked
pub marked-more : (marks : List Bool) (mentions : List ℕ) (number : ℕ) → AreMarked marks mentions → number < length marks → AreMarked (slice_set marks number true) (mentions ++ number ∷ [])
marked-more marks mentions number marked low k lt = by (k == number) refl
  where
    long : length (slice_set marks number true) ≡ length marks
    long = search rules

    last : (b : Bool) → (number == k) ≡ b → list_any (λ o. o == k) (mentions ++ number ∷ []) ≡ (list_any (λ o. o == k) mentions || (b || false))
    last b e = list_any-append (λ o. o == k) mentions (number ∷ []) ∙ rw e refl

    either : (b : Bool) → (b || (true || false)) ≡ true
    either true = refl
    either false = refl

    neither : (b : Bool) → (b || (false || false)) ≡ b
    neither true = refl
    neither false = refl

    by : (b : Bool) → (k == number) ≡ b → unwrap_or (slice_get (slice_set marks number true) k) false ≡ list_any (λ o. o == k) (mentions ++ number ∷ [])
    by true e =
        let same : k ≡ number = eqb-true k number e in
        ap (λ v. unwrap_or v false) (ap (slice_get (slice_set marks number true)) same ∙ get-set marks number true low)
        ∙ (sym (either (list_any (λ o. o == k) mentions)) ∙ sym (last true (eq-eqb number k (sym same))))
    by false e =
        let other : (number == k) ≡ false = flip (number == k) refl in
        ap (λ v. unwrap_or v false) (get-unset marks number true k (λ same. true≢false (sym (eq-eqb k number same) ∙ e)))
        ∙ (marked k (subst (λ n. k < n) long lt) ∙ (sym (neither (list_any (λ o. o == k) mentions)) ∙ sym (last false other)))
      where
        flip : (b : Bool) → (number == k) ≡ b → (number == k) ≡ false
        flip false q = q
        flip true q = absurd (true≢false (sym (eq-eqb k number (sym (eqb-true number k q))) ∙ e))
