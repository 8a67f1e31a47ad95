-- Lists, number by number.
use Rattle.std.proofs.Common.{◌≡◌, ℕ, ◌+◌, ◌<◌, List, [], ◌∷◌, ◌++◌, length, get_or, take, drop, Some, arith, ap, sym, ◌∙◌, length-drop}
use Rattle.std.specs.Prelude.{slice_get}
use Rattle.std.proofs.lemmas.List.{take_more, take_more_same, get_or-take, get_or-drop}
use Rattle.std.proofs.lemmas.Option.{slice_get_within, get_or_from_slice_get}

-- one more of the first numbers
pub take_next : (numbers : List ℕ) (index number : ℕ) → slice_get numbers index ≡ Some number → take (index + 1) numbers ≡ take index numbers ++ number ∷ []
take_next numbers index number there =
    take_more numbers index 0 (slice_get_within numbers index number there)
    ∙ ap (λ (last : ℕ). take index numbers ++ last ∷ []) (get_or_from_slice_get numbers index number 0 there)

-- a number behind others, by its place among all
dropped : (numbers : List ℕ) (from index number : ℕ) → slice_get numbers (from + index) ≡ Some number → get_or (drop from numbers) index 0 ≡ number
dropped numbers from index number there = get_or-drop from numbers index 0 ∙ get_or_from_slice_get numbers (from + index) number 0 there

-- one more of the numbers that stand there
pub agrees : (numbers wanted : List ℕ) (from index number : ℕ) → slice_get numbers (from + index) ≡ Some number → index < length wanted → number ≡ get_or wanted index 0 → take index (drop from numbers) ≡ take index wanted →
    take (index + 1) (drop from numbers) ≡ take (index + 1) wanted
agrees numbers wanted from index number there low is before =
    take_more_same (drop from numbers) wanted index 0 (omega (arith, length-drop from numbers, slice_get_within numbers (from + index) number there)) low before (dropped numbers from index number there ∙ is)

-- a number that doesn't stand there
pub differs : (numbers wanted : List ℕ) (from index number : ℕ) → slice_get numbers (from + index) ≡ Some number → index < length wanted → (number ≡ get_or wanted index 0 → ⊥) → take (length wanted) (drop from numbers) ≡ wanted → ⊥
differs numbers wanted from index number there low other same =
    other (sym (dropped numbers from index number there) ∙ sym (get_or-take (length wanted) (drop from numbers) index 0 low) ∙ ap (λ (all : List ℕ). get_or all index 0) same)
