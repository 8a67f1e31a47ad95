-- Each step on a claim table keeps its rule, and tells what it is to tell.
use Rattle.std.proofs.Common.{◌≡◌, ℕ, suc, ◌+◌, ◌%◌, ◌^◌, ◌<◌, ◌≤◌, List, [], ◌∷◌, ◌++◌, set, Bool, true, false, ltb, min, refl, sym, ap, ◌∙◌, subst, ⊎_elim, arith}
use Rattle.std.proofs.Math.Nat.{mod-eq_of_lt}
use Rattle.std.proofs.lemmas.Bool.{ltb-true, ltb-false}
use mathlib.Core.Option.{some, none}
use lib.ListN.{get_elem?}
use Rattle.atomic_table.specs.Table.{step, keeps, Allows, Splits, Joins}
use Rattle.atomic_table.proofs.Lists.{at_snoc}
use Rattle.pz_claims.specs.declared.limits.TheConstants.{MOST_NUMBERS, MOST_SEATS}
use Rattle.pz_claims.specs.Rule.{times, Table, word_of, IsLawful}
use Rattle.pz_claims.specs.Steps.{Holder, Finds, ClaimTells, LookTells, one_more, new_seat, with_ended}
use Rattle.pz_claims.specs.View.{total_of, numbers_of, found_of, made_of, joined_of, makers_of, claiming_of, ended_of, spent_of, Knows}
use Rattle.pz_claims.specs.declared.view.View.{View}
use Rattle.pz_claims.specs.declared.view.View.TheVariants.{Making, Claiming, Ended, Spent}
use Rattle.pz_claims.proofs.Sums.{one_within_sum, sum_by-split, sum_by-join}
use Rattle.pz_claims.proofs.Counting.{times-push, times-append, once_below-next, once_below-full, once_below-le}
use Rattle.pz_claims.proofs.Keeping.{known_set, keeps_law, all_below, word_bound}
use Rattle.pz_claims.proofs.Closing.{made_is}

-- one added to the word
module _ (n id : ℕ) (ns : List ℕ) (few : n ≤ MOST_NUMBERS) (slots : ℕ) where
  claims_by : (s : Table) → IsLawful n s → get_elem? s.views id ≡ some (Claiming n ns) → (b : Bool) → ltb (word_of s) n ≡ b
      → (w : View) × IsLawful n record { words = set s.words 0 (word_of s + 1); homes = s.homes; views = set s.views id w } × Finds (Claiming n ns) (word_of s) w
  claims_by s law at true is =
      let k : ℕ = word_of s in
      let below : k < n = ltb-true k n is in
      let w = Claiming n (ns ++ k ∷ []) in (
        w,
        keeps_law n s id (Claiming n ns) w (k + 1) law at record {
          numbers = λ x. omega (arith, times-push x ns k, once_below-next x k n below);
          ended = omega arith;
          maker = refl;
          made = refl;
          joined = refl;
          few = omega arith;
          known = refl;
        },
        rw is (refl, all_below n s law id ns at),
      )
  claims_by s law at false is =
      let k : ℕ = word_of s in
      let past : n ≤ k = ltb-false k n is in
      let w = Ended n ns k in (
        w,
        keeps_law n s id (Claiming n ns) w (k + 1) law at record {
          numbers = λ x. omega (arith, once_below-full x k n past);
          ended = omega arith;
          maker = refl;
          made = refl;
          joined = refl;
          few = omega arith;
          known = refl;
        },
        rw is refl,
      )

  claims_of : Allows (IsLawful n) slots id (Claiming n ns, []) 0 (λ k. (k + 1) % 2 ^ 64) (ClaimTells (step slots 0 1 0 none) (Claiming n ns, []))
  claims_of s law homes at room =
      let t = claims_by s law at (ltb (word_of s) n) refl in
      let small : word_of s + 1 < 2 ^ 64 = omega (arith, word_bound n s law) in
      (t.0, keeps, tt, rw mod-eq_of_lt t.1, (refl, t.2))

pub claims : (n id : ℕ) (me : Holder) → me ≡ (Claiming (total_of me.0) (numbers_of me.0), []) → total_of me.0 ≡ n → n ≤ MOST_NUMBERS → (slots : ℕ)
    → Allows (IsLawful n) slots id me 0 (λ k. (k + 1) % 2 ^ 64) (ClaimTells (step slots 0 1 0 none) me)
claims n id me is total few slots =
    let P : Holder → Type 0 = λ (h : Holder). Allows (IsLawful n) slots id h 0 (λ k. (k + 1) % 2 ^ 64) (ClaimTells (step slots 0 1 0 none) h) in
    subst P (sym (is ∙ ap (λ (k : ℕ). (Claiming k (numbers_of me.0), [])) total)) (claims_of n id (numbers_of me.0) few slots)

-- nothing added to the word
pub looks : (n id slots : ℕ) (me : Holder) → Allows (IsLawful n) slots id me 0 (λ k. (k + 0) % 2 ^ 64) (LookTells (step slots 0 0 0 none) me)
looks n id slots me s law homes at room =
    let k : ℕ = word_of s in
    let same : (k + 0) % 2 ^ 64 ≡ k = ap (λ (m : ℕ). m % 2 ^ 64) (omega arith) ∙ mod-eq_of_lt room in (
      me.0,
      keeps,
      tt,
      rw same (keeps_law n s id me.0 me.0 k law at record {
        numbers = λ x. refl;
        ended = refl;
        maker = refl;
        made = refl;
        joined = refl;
        few = omega arith;
        known = law.known id me.0 at;
      }),
      (refl, λ x. let a = one_within_sum (λ u. times x (numbers_of u)) s.views id me.0 at in let b = law.numbers x in let c = once_below-le x (min k n) in omega arith),
    )

-- a seat is made
splits_of : (n id : ℕ) (ns : List ℕ) (m j : ℕ) → m < MOST_SEATS → Splits (IsLawful n) id (Making n ns m j) (one_more (Making n ns m j)) (new_seat (Making n ns m j))
splits_of n id ns m j few s law at =
    let v = Making n ns m j in
    let left = Making n ns (suc m) j in
    let right = Claiming n [] in
    let sums = λ (f : View → ℕ). sum_by-split f s.views id v left right at in record {
      word = law.word;
      numbers = λ x. let a = sums (λ u. times x (numbers_of u)) in let b = law.numbers x in omega arith;
      ended = let a = sums ended_of in let b = sums spent_of in let c = law.ended in omega arith;
      maker = let a = sums makers_of in let b = law.maker in omega arith;
      made = let a = sums claiming_of in let b = sums ended_of in let c = sums spent_of in let d = sums made_of in let e = law.made in omega arith;
      joined = let a = sums spent_of in let b = sums joined_of in let c = law.joined in omega arith;
      few = let a = sums made_of in let b = made_is n id ns m j s law at in omega arith;
      known = λ k u e. ⊎_elim (known_set n s.views id left refl law.known k u) (λ (t : right ≡ u). subst (Knows n) t refl) (at_snoc (set s.views id left) right u k e);
    }

pub splits : (n id : ℕ) (v : View) (made : ℕ) → v ≡ Making (total_of v) (numbers_of v) made (joined_of v) → total_of v ≡ n → made < MOST_SEATS → Splits (IsLawful n) id v (one_more v) (new_seat v)
splits n id v made is total few =
    let P : View → Type 0 = λ (u : View). Splits (IsLawful n) id u (one_more u) (new_seat u) in
    subst P (sym (is ∙ ap (λ (k : ℕ). Making k (numbers_of v) made (joined_of v)) total)) (splits_of n id (numbers_of v) made (joined_of v) few)

-- a seat that has ended is taken in
joins_of : (n id : ℕ) (ns : List ℕ) (m j other : ℕ) (ms : List ℕ) (k : ℕ) → Joins (IsLawful n) id (Making n ns m j) other (Ended n ms k) (with_ended (Making n ns m j) (Ended n ms k)) Spent
joins_of n id ns m j other ms k s law at apart there =
    let both = Making n (ns ++ ms) m (suc j) in
    let sums = λ (f : View → ℕ). sum_by-join f s.views id (Making n ns m j) both other (Ended n ms k) Spent at there in record {
      word = law.word;
      numbers = λ x. let a = sums (λ u. times x (numbers_of u)) in let b = law.numbers x in omega (arith, times-append x ns ms);
      ended = let a = sums ended_of in let b = sums spent_of in let c = law.ended in omega arith;
      maker = let a = sums makers_of in let b = law.maker in omega arith;
      made = let a = sums claiming_of in let b = sums ended_of in let c = sums spent_of in let d = sums made_of in let e = law.made in omega arith;
      joined = let a = sums spent_of in let b = sums joined_of in let c = law.joined in omega arith;
      few = let a = sums made_of in let b = law.few in omega arith;
      known = known_set n (set s.views id both) other Spent tt (known_set n s.views id both refl law.known);
    }

pub joins : (n id : ℕ) (v : View) (made other : ℕ) (w : View) → v ≡ Making (total_of v) (numbers_of v) made (joined_of v) → total_of v ≡ n → w ≡ Ended (total_of w) (numbers_of w) (found_of w) → total_of w ≡ n
    → Joins (IsLawful n) id v other w (with_ended v w) Spent
joins n id v made other w v_is v_total w_is w_total =
    let P : View → View → Type 0 = λ (a b : View). Joins (IsLawful n) id a other b (with_ended a b) Spent in
    let v_now = v_is ∙ ap (λ (k : ℕ). Making k (numbers_of v) made (joined_of v)) v_total in
    let w_now = w_is ∙ ap (λ (k : ℕ). Ended k (numbers_of w) (found_of w)) w_total in
    subst (λ a. P a w) (sym v_now) (subst (P (Making n (numbers_of v) made (joined_of v))) (sym w_now) (joins_of n id (numbers_of v) made (joined_of v) other (numbers_of w) (found_of w)))
