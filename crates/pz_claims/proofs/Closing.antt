-- What the rule tells the one maker of the table, and what the last word tells it.
use Rattle.std.proofs.Common.{◌≡◌, ℕ, ◌+◌, ◌<◌, List, [], ◌∷◌, min, refl, sym, ap, ◌∙◌, arith}
use Rattle.std.specs.Prelude.{sum_by, slice_index}
use mathlib.Core.Option.{some, some-ne-none, some-injective}
use lib.ListN.{get_elem?}
use Rattle.pz_claims.specs.Rule.{times, once_below, Once, Table, word_of, IsLawful}
use Rattle.pz_claims.specs.View.{total_of, numbers_of, made_of, joined_of, makers_of, claiming_of, ended_of}
use Rattle.pz_claims.specs.declared.view.View.{View}
use Rattle.pz_claims.specs.declared.view.View.TheVariants.{Making, Claiming, Ended, Spent}
use Rattle.pz_claims.proofs.Sums.{alone, sum_by-plus}
use Rattle.pz_claims.proofs.Counting.{nothing_below}

made_by_makers : (u : View) → makers_of u ≡ 0 → made_of u ≡ 0
made_by_makers (Making n ns m j) e = absurd (omega arith)
made_by_makers (Claiming n ns) e = refl
made_by_makers (Ended n ns k) e = refl
made_by_makers Spent e = refl

joined_by_makers : (u : View) → makers_of u ≡ 0 → joined_of u ≡ 0
joined_by_makers (Making n ns m j) e = absurd (omega arith)
joined_by_makers (Claiming n ns) e = refl
joined_by_makers (Ended n ns k) e = refl
joined_by_makers Spent e = refl

-- 1 for all who may have numbers
abbrev holders_of : View → ℕ
holders_of u = makers_of u + claiming_of u + ended_of u

had_by_holders : (x : ℕ) (u : View) → holders_of u ≡ 0 → times x (numbers_of u) ≡ 0
had_by_holders x (Making n ns m j) e = absurd (omega arith)
had_by_holders x (Claiming n ns) e = absurd (omega arith)
had_by_holders x (Ended n ns k) e = absurd (omega arith)
had_by_holders x Spent e = refl

module _ (n id : ℕ) (ns : List ℕ) (m j : ℕ) (s : Table) (law : IsLawful n s) (at : get_elem? s.views id ≡ some (Making n ns m j)) where
  pub made_is : sum_by made_of s.views ≡ m
  made_is = alone made_of makers_of made_by_makers s.views id (Making n ns m j) at law.maker

  joined_is : sum_by joined_of s.views ≡ j
  joined_is = alone joined_of makers_of joined_by_makers s.views id (Making n ns m j) at law.maker

  module _ (all : j ≡ m) where
    -- once all seats are joined, the maker alone has numbers
    has_all : (x : ℕ) → times x ns ≡ once_below x (min (word_of s) n)
    has_all x =
        let a = made_is in
        let b = joined_is in
        let c = law.made in
        let d = law.joined in
        let e = law.maker in
        let p = sum_by-plus makers_of claiming_of s.views in
        let q = sum_by-plus (λ u. makers_of u + claiming_of u) ended_of s.views in
        let one : sum_by holders_of s.views ≡ 1 = omega arith in
        sym (alone (λ u. times x (numbers_of u)) holders_of (had_by_holders x) s.views id (Making n ns m j) at one) ∙ law.numbers x

    full_word : 0 < m → word_of s ≡ n + m
    full_word some_made = let a = made_is in let b = joined_is in let c = law.made in let d = law.joined in let e = law.ended in omega arith

    has_each : 0 < m → Once n ns
    has_each some_made x = let full = full_word some_made in let least : min (word_of s) n ≡ n = omega arith in has_all x ∙ ap (once_below x) least

    unclaimed : m ≡ 0 → ns ≡ [] → word_of s ≡ 0
    unclaimed none_made empty =
        let a = made_is in
        let b = law.made in
        let c = law.ended in
        nothing_below (word_of s) n (sym (has_all 0) ∙ ap (times 0) empty) (omega arith)

first_word : (ws : List ℕ) (x : ℕ) → get_elem? ws 0 ≡ some x → slice_index ws 0 ≡ x
first_word [] x e = absurd (some-ne-none x (sym e))
first_word (w ∷ ws) x e = some-injective w x e

pub closes : (n id : ℕ) (v : View) (made : ℕ) (s : Table) (word : ℕ) → v ≡ Making (total_of v) (numbers_of v) made (joined_of v) → total_of v ≡ n → joined_of v ≡ made → (joined_of v ≡ 0 → numbers_of v ≡ [])
    → IsLawful n s → get_elem? s.views id ≡ some v → get_elem? s.words 0 ≡ some word
    → (made ≡ 0 → word ≡ 0) × (0 < made → word ≡ n + made) × (0 < made → Once n (numbers_of v))
closes n id v made s word is total all empty law at read =
    let here : get_elem? s.views id ≡ some (Making n (numbers_of v) made (joined_of v)) = at ∙ ap some (is ∙ ap (λ (k : ℕ). Making k (numbers_of v) made (joined_of v)) total) in
    let found = first_word s.words word read in (
      (λ none. sym found ∙ unclaimed n id (numbers_of v) made (joined_of v) s law here all none (empty (all ∙ none))),
      (λ some_made. sym found ∙ full_word n id (numbers_of v) made (joined_of v) s law here all some_made),
      (λ some_made. has_each n id (numbers_of v) made (joined_of v) s law here all some_made),
    )
