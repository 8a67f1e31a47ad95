-- What holds word by word.
use Rattle.std.proofs.Common.{◌≡◌, ℕ, ◌+◌, ◌*◌, ◌/◌, ◌%◌, ◌<◌, ◌≤◌, List, Bool, false, not, set, get_or-set_same, length, get_or, arith, ap, ◌∙◌}
use Rattle.std.specs.Prelude.{IsTrue, ◌↔◌}
use Rattle.std.proofs.lemmas.Grind.{common_steps}
use Rattle.std.proofs.lemmas.Bool.{not-false}
use Rattle.std.proofs.lemmas.List.{get_or_past}
use Rattle.pz_sets.specs.Sets.{in_word, member}
use Rattle.pz_sets.proofs.SetLemmas.{member_set_same, member_set_other}
use Rattle.pz_sets.proofs.WordLemmas.{in_word-zero}

-- the word and the bit of a number
pub number_at : (index bit : ℕ) → bit < 128 → ((128 * index + bit) / 128 ≡ index) × ((128 * index + bit) % 128 ≡ bit)
number_at index bit low = (omega arith, omega arith)

-- a number whose word is missing is in no set
pub member_missing : (words : List ℕ) (number : ℕ) → length words ≤ number / 128 → member words number ≡ false
member_missing words number past = ap (λ (w : ℕ). in_word w (number % 128)) (get_or_past words (number / 128) 0 past) ∙ in_word-zero (number % 128)

-- one word anew gives the same set if it has the same bits
pub changed_word : (words : List ℕ) (index new : ℕ) (same : Bool) → index < length words → (IsTrue same ↔ ((bit : ℕ) → bit < 128 → in_word new bit ≡ in_word (get_or words index 0) bit)) → ((not same ≡ false) ↔ ((number : ℕ) → member (set words index new) number ≡ member words number))
changed_word words index new same within alike = (
  λ e number. grind (arith, common_steps, member_set_same words index new number within, member_set_other words index new number, alike.0 (not-false same e) (number % 128) (omega arith)),
  λ h. ap not (alike.1 (λ bit low. grind (arith, common_steps, number_at index bit low, h (128 * index + bit), get_or-set_same words index new 0 within))),
)
