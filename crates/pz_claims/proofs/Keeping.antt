-- A step that changes one view and the word keeps the rule where the change fits, and what the rule says of one view.
use Rattle.std.proofs.Common.{◌≡◌, ◌≢◌, ℕ, ◌+◌, ◌-◌, ◌<◌, ◌≤◌, List, get_or, set, min, ◌∙◌, subst, ⊎_elim, arith, All, length-set, get_or-set_same}
use Rattle.std.specs.Prelude.{slice_index}
use mathlib.Core.Option.{some}
use lib.ListN.{get_elem?}
use Rattle.atomic_table.proofs.Lists.{at_set}
use Rattle.pz_claims.specs.declared.limits.TheConstants.{MOST_SEATS}
use Rattle.pz_claims.specs.Rule.{times, once_below, Table, word_of, IsLawful}
use Rattle.pz_claims.specs.View.{numbers_of, made_of, joined_of, makers_of, claiming_of, ended_of, spent_of, Knows}
use Rattle.pz_claims.specs.declared.view.View.{View}
use Rattle.pz_claims.specs.declared.view.View.TheVariants.{Claiming}
use Rattle.pz_claims.proofs.Sums.{one_within_sum, sum_by-set}
use Rattle.pz_claims.proofs.Counting.{stands, is_below}

pub known_set : (n : ℕ) (views : List View) (id : ℕ) (w : View) → Knows n w → ((j : ℕ) (u : View) → get_elem? views j ≡ some u → Knows n u) → (j : ℕ) (u : View) → get_elem? (set views id w) j ≡ some u → Knows n u
known_set n views id w mine all j u at =
    ⊎_elim (λ (t : (j ≡ id) × (w ≡ u)). subst (Knows n) t.1 mine) (λ (t : (j ≢ id) × (get_elem? views j ≡ some u)). all j u t.1) (at_set views id j w u at)

-- a change of the word from k to next and of one view from v to w, after which the sums of the rule agree again
pub record Fits (n k next : ℕ) (v w : View) : Type 0 where
  pub numbers : (x : ℕ) → times x (numbers_of w) + once_below x (min k n) ≡ times x (numbers_of v) + once_below x (min next n)
  pub ended : ended_of w + spent_of w + (k - n) ≡ ended_of v + spent_of v + (next - n)
  pub maker : makers_of w ≡ makers_of v
  pub made : claiming_of w + ended_of w + spent_of w + made_of v ≡ claiming_of v + ended_of v + spent_of v + made_of w
  pub joined : spent_of w + joined_of v ≡ spent_of v + joined_of w
  pub few : made_of w ≤ made_of v
  pub known : Knows n w

pub keeps_law : (n : ℕ) (s : Table) (id : ℕ) (v w : View) (next : ℕ) → IsLawful n s → get_elem? s.views id ≡ some v → Fits n (word_of s) next v w
    → IsLawful n record { words = set s.words 0 next; homes = s.homes; views = set s.views id w }
keeps_law n s id v w next law at fits =
    let is : slice_index (set s.words 0 next) 0 ≡ next = get_or-set_same s.words 0 next 0 (omega (arith, law.word)) in
    let sums = λ (f : View → ℕ). sum_by-set f s.views id v w at in record {
      word = length-set s.words 0 next ∙ law.word;
      numbers = λ x. rw is (let a = sums (λ u. times x (numbers_of u)) in let b = law.numbers x in let c = fits.numbers x in omega arith);
      ended = rw is (let a = sums ended_of in let b = sums spent_of in let c = law.ended in let d = fits.ended in omega arith);
      maker = let a = sums makers_of in let b = law.maker in let c = fits.maker in omega arith;
      made = let a = sums claiming_of in let b = sums ended_of in let c = sums spent_of in let d = sums made_of in let e = law.made in let f = fits.made in omega arith;
      joined = let a = sums spent_of in let b = sums joined_of in let c = law.joined in let d = fits.joined in omega arith;
      few = let a = sums made_of in let b = law.few in let c = fits.few in omega arith;
      known = known_set n s.views id w fits.known law.known;
    }

module _ (n : ℕ) (s : Table) (law : IsLawful n s) where
  -- a number that a seat has is below the word
  pub all_below : (id : ℕ) (ns : List ℕ) → get_elem? s.views id ≡ some (Claiming n ns) → All (λ x. x < word_of s) ns
  all_below id ns at k d h =
      let within = one_within_sum (λ u. times (get_or ns k d) (numbers_of u)) s.views id (Claiming n ns) at in
      let is = law.numbers (get_or ns k d) in
      let one = stands ns k d h in
      let below = is_below (get_or ns k d) (min (word_of s) n) (omega arith) in
      omega arith

  pub word_bound : word_of s ≤ n + MOST_SEATS
  word_bound = let a = law.ended in let b = law.made in let c = law.few in omega arith
