-- Passes: one that leaves calm items out gives what the whole pass gives; and when a loop of passes ends.
use Rattle.pz_turn.proofs.Common.{◌≡◌, ℕ, suc, ◌+◌, ◌<◌, ◌≤◌, Result, Ok, Err, List, [], ◌∷◌, Bool, true, false, cond, ◌||◌, ◌⊎◌, inl, inr, fold, take, drop, length, get_or, refl, ap, sym, ◌∙◌, arith, subst, cases_lt, or_parts, take_more, take-append-drop, get_or-drop, length-drop, get_or_default, Commands, no_commands, either, StepFault, Outcome, nothing_run, followed_by, outcome_behind, Runs, pass_of, ends, IsCalm, AreCalmFrom, fold-append, not, Some, None, at_drop_more, add-one, below_more, find, range_with_len, passes, ends_after, is_last, up_to, rest_of, fold_stays, length-range_with_len, get_or-range_with_len}
use Rattle.std.specs.Int.RustNames.{bit_or}
use Rattle.std.proofs.lemmas.Nat.{or_comm}
use Rattle.std.proofs.lemmas.Nat.Bits.{bit_at_or, same_from_bits}
use Rattle.std.proofs.lemmas.List.Recursion.{found_at, found_nowhere}
use lib.Bits.{or_self}

-- one more instance, which may stop
pub fold_more : {L I : Type 0} (applied : I → Runs L) (o : Outcome L) (r : Result (Outcome L) StepFault) (xs : List I) (i : ℕ) (x : I) → i < length xs → x ≡ get_or xs i x → applied x o.level ≡ r → fold (λ so_far y. followed_by so_far (applied y)) (outcome_behind o r) (drop (i + 1) xs) ≡ fold (λ so_far y. followed_by so_far (applied y)) (Ok o) (drop i xs)
fold_more applied o r xs i x in_range at gives = grind (arith, at_drop_more (fold (λ so_far y. followed_by so_far (applied y)) (Ok o)) xs i x in_range, at, gives)

-- a stop at the next instance is the stop of the rest of the group
pub fold_stops : {L I : Type 0} (applied : I → Runs L) (o : Outcome L) (xs : List I) (i : ℕ) (x : I) (fault : StepFault) (whole : Result (Outcome L) StepFault) → fold (λ so_far y. followed_by so_far (applied y)) (Ok o) (drop i xs) ≡ whole → i < length xs → x ≡ get_or xs i x → applied x o.level ≡ Err fault → whole ≡ Err fault
fold_stops applied o xs i x fault whole so_far in_range at stops = sym so_far ∙ sym (fold_more applied o (Err fault) xs i x in_range at stops) ∙ fold_stays (λ so_far y. followed_by so_far (applied y)) (Err fault) (λ y. refl) (drop (i + 1) xs)

-- ---- the commands of either
or_assoc : (a b c : ℕ) → bit_or (bit_or a b) c ≡ bit_or a (bit_or b c)
or_assoc a b c = same_from_bits _ _ (λ i. omega (arith, bit_at_or (bit_or a b) c i, bit_at_or a b i, bit_at_or a (bit_or b c) i, bit_at_or b c i))

abbrev set_of : ℕ → Commands
set_of n = record { 0 = n }

pub either_assoc : (a b c : Commands) → either (either a b) c ≡ either a (either b c)
either_assoc a b c = ap set_of (or_assoc a.0 b.0 c.0)

pub either_comm : (a b : Commands) → either a b ≡ either b a
either_comm a b = ap set_of (or_comm a.0 b.0)

pub either_self : (a : Commands) → either a a ≡ a
either_self a = ap set_of (or_self a.0)

-- what was known stays known, and what was given is
known_still : (a more c : Commands) → either a c ≡ a → either (either a more) c ≡ either a more
known_still a more c h = either_assoc a more c ∙ (ap (either a) (either_comm more c) ∙ (sym (either_assoc a c more) ∙ ap (λ (s : Commands). either s more) h))

known_now : (a more c : Commands) → either more c ≡ more → either (either a more) c ≡ either a more
known_now a more c h = either_assoc a more c ∙ ap (either a) h

-- what is calm stays so where more commands were given before
pub calm_known : {L I : Type 0} (runs : I → Runs L) (before given : Commands) (level : L) (item : I) → IsCalm runs given level item → IsCalm runs (either before given) level item
calm_known runs before given level item calm = record { gives = calm.gives; quiet = calm.quiet; known = known_now before given calm.gives calm.known }

-- ---- a pass so far
module _ {L I : Type 0} (runs : I → Runs L) (items : List I) where
  abbrev step : Result (Outcome L) StepFault → I → Result (Outcome L) StepFault
  step so_far item = followed_by so_far (runs item)

  -- n items were run; those from `behind` on left the level, and gave no command that isn't among those given
  pub record Passing (start : L) (calm_from n : ℕ) (o : Outcome L) (behind : ℕ) : Type 0 where
    pub so_far : pass_of runs (take n items) start ≡ Ok o
    pub ahead : o.changed ≡ false → n ≤ calm_from
    pub kept : o.changed ≡ false → o.level ≡ start
    pub calm : (number : ℕ) (other : I) → behind ≤ number → number < n → IsCalm runs o.commands o.level (get_or items number other)

  -- one item more
  pass_more : (start : L) (n : ℕ) (item : I) (o r : Outcome L) → n < length items → item ≡ get_or items n item → pass_of runs (take n items) start ≡ Ok o → runs item o.level ≡ Ok r → pass_of runs (take (n + 1) items) start ≡ outcome_behind o (Ok r)
  pass_more start n item o r within is so_far gives = grind (arith, take_more items n item within, fold-append step (Ok (nothing_run start)) (take n items) (get_or items n item ∷ []), is, so_far, gives)

  -- where it changed something, only those behind it may be calm, and the item itself
  pub passing_changed : (start : L) (calm_from n : ℕ) (item : I) (o r : Outcome L) (behind first : ℕ) → n < length items → item ≡ get_or items n item → Passing start calm_from n o behind → runs item o.level ≡ Ok r → r.changed ≡ true
      → (first ≡ n + 1) ⊎ ((first ≡ n) × IsCalm runs r.commands r.level item)
      → Passing start calm_from (n + 1) (record { level = r.level; commands = either o.commands r.commands; changed = o.changed || r.changed }) first
  passing_changed start calm_from n item o r behind first within is p gives changes calm =
      record {
        so_far = pass_more start n item o r within is p.so_far gives;
        ahead = λ none. absurd (grind (arith, changes, none));
        kept = λ none. absurd (grind (arith, changes, none));
        calm = λ number other from below. elim calm [
          | inl next ↦ absurd (omega (arith, from, below, next))
          | inr here ↦ (let at : n ≡ number = omega (arith, from, below, here.0) in
              let same : item ≡ get_or items number other = is ∙ get_or_default items n item other within ∙ ap (λ (k : ℕ). get_or items k other) at in
              subst (IsCalm runs (either o.commands r.commands) r.level) same (calm_known runs o.commands r.commands r.level item here.1))
        ];
      }

  -- where it left the level, it is calm itself
  pub passing_quiet : (start : L) (calm_from n : ℕ) (item : I) (o r : Outcome L) (behind : ℕ) → n < length items → item ≡ get_or items n item → Passing start calm_from n o behind → (n ≡ calm_from → o.changed ≡ false → ⊥) → runs item o.level ≡ Ok r → r.changed ≡ false → r.level ≡ o.level
      → Passing start calm_from (n + 1) (record { level = r.level; commands = either o.commands r.commands; changed = o.changed || r.changed }) behind
  passing_quiet start calm_from n item o r behind within is p goes_on gives quiet keeps = record {
    so_far = pass_more start n item o r within is p.so_far gives;
    ahead = λ none. grind (arith, p.ahead, goes_on, or_parts o.changed r.changed none);
    kept = λ none. keeps ∙ p.kept (or_parts o.changed r.changed none).0;
    calm = λ number other from below. elim (cases_lt number n) [
      | inl earlier ↦ (let calm = p.calm number other from earlier in
          record { gives = calm.gives; quiet = rw keeps calm.quiet; known = known_still o.commands r.commands calm.gives calm.known })
      | inr here ↦ subst (λ (k : ℕ). IsCalm runs (either o.commands r.commands) r.level (get_or items k other)) (let e : n ≡ number = omega (arith, here, below) in e) (last other)
    ];
  } where
    last : (other : I) → IsCalm runs (either o.commands r.commands) r.level (get_or items n other)
    last other =
        let same : item ≡ get_or items n other = is ∙ get_or_default items n item other within in
        let here : runs (get_or items n other) o.level ≡ Ok r = rw (← same) gives in
        record { gives = r.commands; quiet = rw (← quiet) (rw (← keeps) at here); known = known_now o.commands r.commands r.commands (either_self r.commands) }

  -- the pass, behind its first items
  split : (start : L) (n : ℕ) (o : Outcome L) → pass_of runs (take n items) start ≡ Ok o → pass_of runs items start ≡ fold step (Ok o) (drop n items)
  split start n o so_far = grind (arith, take-append-drop n items, fold-append step (Ok (nothing_run start)) (take n items) (drop n items), so_far)

  -- a stop at the next item is the pass's
  pub passing_stops : (start : L) (calm_from n : ℕ) (item : I) (o : Outcome L) (behind : ℕ) (fault : StepFault) → n < length items → item ≡ get_or items n item → Passing start calm_from n o behind → runs item o.level ≡ Err fault → pass_of runs items start ≡ Err fault
  passing_stops start calm_from n item o behind fault within is p stops = fold_stops runs o items n item fault (pass_of runs items start) (sym (split start n o p.so_far)) within is stops

  -- ---- calm items give nothing new
  calm_fold : (commands : Commands) (level : L) (xs : List I) → ((number : ℕ) (other : I) → number < length xs → IsCalm runs commands level (get_or xs number other)) → (given : Commands)
      → (all : Commands) × (fold step (Ok (record { level = level; commands = given; changed = false })) xs ≡ Ok (record { level = level; commands = all; changed = false })) × (either commands all ≡ either commands given)
  calm_fold commands level [] calm given = (given, refl, refl)
  calm_fold commands level (x ∷ xs) calm given =
      let here = calm 0 x (omega arith) in
      let later = calm_fold commands level xs (λ number other below. calm (suc number) other (omega (arith, below))) (either given here.gives) in (
        later.0,
        ap (λ (r : Result (Outcome L) StepFault). fold step (outcome_behind (record { level = level; commands = given; changed = false }) r) xs) here.quiet ∙ later.1,
        later.2 ∙ (sym (either_assoc commands given here.gives) ∙ known_still commands given here.gives here.known),
      )

  -- with a pass that changed nothing before calm items a group is at rest
  pub calm_rest : (o : Outcome L) (given : Commands) (changed : Bool) (after : L) (calm_from : ℕ) → AreCalmFrom runs o.commands o.level items calm_from → pass_of runs (cond changed items (take calm_from items)) o.level ≡ Ok (record { level = after; commands = given; changed = changed }) → changed ≡ false → after ≡ o.level
      → (ends (pass_of runs items o.level) ≡ true) × (outcome_behind o (pass_of runs items o.level) ≡ Ok (record { level = after; commands = either o.commands given; changed = o.changed || changed }))
  calm_rest o given true after calm_from calm is quiet keeps = cc
  calm_rest o given false after calm_from calm is quiet keeps =
      let before = is ∙ ap (λ (level : L). Ok (record { level = level; commands = given; changed = false })) keeps in
      let rest = calm_fold o.commands o.level (drop calm_from items) (λ number other below. subst (IsCalm runs o.commands o.level) (sym (get_or-drop calm_from items number other)) (calm (calm_from + number) other (omega arith) (omega (arith, below, length-drop calm_from items)))) given in
      let whole = split o.level calm_from _ before ∙ rest.1 in
      (ap ends whole, grind (arith, whole, rest.2, keeps))

  pub calm_more : (before given : Commands) (level : L) (from : ℕ) → AreCalmFrom runs given level items from → AreCalmFrom runs (either before given) level items from
  calm_more before given level from calm number other at below = calm_known runs before given level _ (calm number other at below)

-- a pass over one item is its run
pub pass_alone : {L I : Type 0} (runs : I → Runs L) (item : I) (level : L) → pass_of runs (item ∷ []) level ≡ runs item level
pass_alone runs item level = grind arith

pub calm_alone : {L I : Type 0} (runs : I → Runs L) (given : Commands) (level : L) (item : I) → IsCalm runs given level item → IsCalm (pass_of runs) given level (item ∷ [])
calm_alone runs given level item calm = record { gives = calm.gives; quiet = pass_alone runs item level ∙ calm.quiet; known = calm.known }

-- a run that is known to do nothing is calm
pub calm_untouched : {L I : Type 0} (runs : I → Runs L) (given : Commands) (level : L) (item : I) → runs item level ≡ Ok (nothing_run level) → IsCalm runs given level item
calm_untouched runs given level item is = record { gives = no_commands; quiet = is; known = either_comm given no_commands }

-- ---- when a loop of passes ends
-- the first number that passes a test
find_first : (p : ℕ → Bool) (limit n : ℕ) → n < limit → ((k : ℕ) → k < n → p k ≡ false) → p n ≡ true → find p (range_with_len 0 limit) ≡ Some n
find_first p limit n in_range before here =
    let at : (k : ℕ) → k < limit → get_or (range_with_len 0 limit) k 0 ≡ k = λ k below. get_or-range_with_len 0 limit k 0 below ∙ (omega arith) in
    found_at (find p) p Some None refl (λ _ _. refl) (range_with_len 0 limit) n 0 (omega (arith, length-range_with_len 0 limit)) (λ k below. ap p (at k (omega arith)) ∙ before k below) (ap p (at n in_range) ∙ here) ∙ ap Some (at n in_range)

pub find_none : (p : ℕ → Bool) (limit : ℕ) → ((k : ℕ) → k < limit → p k ≡ false) → find p (range_with_len 0 limit) ≡ None
find_none p limit nowhere =
    found_nowhere (find p) p Some None refl (λ _ _. refl) (range_with_len 0 limit) 0 (λ k below. ap p (get_or-range_with_len 0 limit k 0 (omega (arith, length-range_with_len 0 limit)) ∙ (omega arith)) ∙ nowhere k (omega (arith, length-range_with_len 0 limit)))

-- n passes were made, and each changed something
pub record Running {L : Type 0} (pass : Runs L) (start : L) (n : ℕ) (outcome : Outcome L) : Type 0 where
  pub so_far : passes pass n start ≡ Ok outcome
  pub went_on : (k : ℕ) → k < n → is_last pass start k ≡ false

-- the next pass stops or changes nothing
pub rest_ends : {L : Type 0} (limit : ℕ) (pass : Runs L) (start : L) (n : ℕ) (o : Outcome L) → Running pass start n o → n < limit → ends (pass o.level) ≡ true → rest_of limit pass start ≡ outcome_behind o (pass o.level)
unfolding rest_of
rest_ends {L} limit pass start n o running in_range here =
    let last : is_last pass start n ≡ true = ap (ends_after pass) running.so_far ∙ here in
    ap (up_to pass start) (find_first (is_last pass start) limit n in_range running.went_on last) ∙ ap (λ r. followed_by r pass) running.so_far

-- one more pass, which changed something
pub running_more : {L : Type 0} (pass : Runs L) (start : L) (n : ℕ) (o p q : Outcome L) → Running pass start n o → pass o.level ≡ Ok p → p.changed ≡ true → outcome_behind o (Ok p) ≡ Ok q → Running pass start (n + 1) q
running_more pass start n o p q running gives changes both =
    record {
      so_far = rw add-one (ap (λ r. followed_by r pass) running.so_far ∙ ap (outcome_behind o) gives ∙ both);
      went_on = λ k below. below_more (λ k. is_last pass start k ≡ false) n running.went_on (ap (ends_after pass) running.so_far ∙ ap ends gives ∙ ap not changes) k below;
    }
