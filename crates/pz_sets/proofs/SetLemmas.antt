-- Sets of four words, word by word.
use Rattle.std.proofs.Common.{◌≡◌, ◌≢◌, ℕ, zero, suc, ◌/◌, ◌%◌, ◌<◌, ◌≤◌, List, [], ◌∷◌, Bool, false, length, get_or, set, arith, ap, sym, ◌∙◌, get_or-set_same, get_or-set_other}
use Rattle.std.proofs.lemmas.List.{get_or_past}
use Rattle.pz_sets.specs.Sets.{in_word, member}
use Rattle.pz_sets.proofs.WordLemmas.{in_word-zero}

-- no number from 512 on is in four words
pub member_past : (words : List ℕ) (number : ℕ) → length words ≤ 4 → 512 ≤ number → member words number ≡ false
member_past words number long past = ap (λ (w : ℕ). in_word w (number % 128)) (get_or_past words (number / 128) 0 (omega arith)) ∙ in_word-zero (number % 128)

-- one word anew
pub member_set_same : (words : List ℕ) (k word number : ℕ) → k < length words → number / 128 ≡ k → member (set words k word) number ≡ in_word word (number % 128)
member_set_same words k word number within e = grind (arith, get_or-set_same words k word 0 within, e)

pub member_set_other : (words : List ℕ) (k word number : ℕ) → number / 128 ≢ k → member (set words k word) number ≡ member words number
member_set_other words k word number e = ap (λ (w : ℕ). in_word w (number % 128)) (get_or-set_other words k (number / 128) word 0 e)

-- an operation on each of four words
pub by_words : (f : Bool → Bool → Bool) (a b c d : ℕ) (old other : List ℕ) → length old ≤ 4 → length other ≤ 4 → f false false ≡ false
    → ((bit : ℕ) → in_word a bit ≡ f (in_word (get_or old 0 0) bit) (in_word (get_or other 0 0) bit)) → ((bit : ℕ) → in_word b bit ≡ f (in_word (get_or old 1 0) bit) (in_word (get_or other 1 0) bit))
    → ((bit : ℕ) → in_word c bit ≡ f (in_word (get_or old 2 0) bit) (in_word (get_or other 2 0) bit)) → ((bit : ℕ) → in_word d bit ≡ f (in_word (get_or old 3 0) bit) (in_word (get_or other 3 0) bit))
    → (number : ℕ) → member (a ∷ b ∷ c ∷ d ∷ []) number ≡ f (member old number) (member other number)
by_words f a b c d old other q r none at at1 at2 at3 number = by (number / 128) (number % 128) where
  by : (k bit : ℕ) → in_word (get_or (a ∷ b ∷ c ∷ d ∷ []) k 0) bit ≡ f (in_word (get_or old k 0) bit) (in_word (get_or other k 0) bit)
  by zero bit = at bit
  by (suc zero) bit = at1 bit
  by (suc (suc zero)) bit = at2 bit
  by (suc (suc (suc zero))) bit = at3 bit
  by (suc (suc (suc (suc k)))) bit = rw (get_or_past old (suc (suc (suc (suc k)))) 0 (omega arith), get_or_past other (suc (suc (suc (suc k)))) 0 (omega arith), in_word-zero bit) (sym none)
