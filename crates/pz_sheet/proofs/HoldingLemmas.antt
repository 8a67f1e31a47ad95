-- The set of some objects, and a cell that holds one of them.
use Rattle.pz_sheet.proofs.Common.{◌≡◌, ◌<◌, ◌≤◌, ℕ, List, [], ◌∷◌, Bool, true, false, not, ◌&&◌, nat_eq, length, get_or, arith, ap, sym, ◌∙◌, refl, eq-eqb, nat_lt, IsTrue, ◌↔◌, All, list_any, and_parts, eqb-true, lt-ltb, list_any_at, list_any_none, member, AreApart, IsSetFor}
use Rattle.pz_sets.proofs.SetLemmas.{member_past}
use Rattle.pz_sets.specs.declared.set.TheConstants.{CAPACITY}
use Rattle.pz_sheet.proofs.SheetLemmas.{only_false}

any_same : (test : ℕ → Bool) (number : ℕ) (xs : List ℕ) → list_any (nat_eq number) xs ≡ true → test number ≡ true → list_any test xs ≡ true
any_same test number [] e h = e
any_same test number (x ∷ xs) e h = grind (arith, any_same test number xs, eqb-true number x)

-- a set of at most four words has no number beyond them
pub low_number : (words : List ℕ) → length words ≤ 4 → (number : ℕ) → member words number ≡ true → number < CAPACITY
low_number words short number there = grind (arith, member_past words number short)

module _ (objects words set : List ℕ) (is : IsSetFor objects set) (low : (object : ℕ) → member words object ≡ true → object < CAPACITY) where
  -- a cell that is apart from the set has none of the objects
  pub each_missing : AreApart words set → All (λ object. member words object ≡ false) objects
  each_missing apart k d within =
      let object = get_or objects k d in
      let here : list_any (nat_eq object) objects ≡ true = list_any_at (nat_eq object) objects k d within (eq-eqb object object refl) in
      only_false (member words object) (λ e. sym (apart object e) ∙ is object ∙ ap (λ (b : Bool). b && list_any (nat_eq object) objects) (lt-ltb object CAPACITY (low object e)) ∙ here)

  -- one that has none of them is apart
  apart_from : list_any (member words) objects ≡ false → AreApart words set
  apart_from none number e = only_false (member set number) (λ s.
      sym none ∙ any_same (member words) number objects (and_parts (nat_lt number CAPACITY) (list_any (nat_eq number) objects) (sym (is number) ∙ s)).1 e)

  pub found_by_set : (b : Bool) → (IsTrue b ↔ AreApart words set) → not b ≡ list_any (member words) objects
  found_by_set b h = grind (arith, h, each_missing, apart_from, list_any_none (member words) objects)

-- two tests that agree
pub any_alike : (test other : ℕ → Bool) (xs : List ℕ) → ((x : ℕ) → test x ≡ other x) → list_any test xs ≡ list_any other xs
any_alike test other [] same = refl
any_alike test other (x ∷ xs) same = grind (arith, same x, any_alike test other xs same)
