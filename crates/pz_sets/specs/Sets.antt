-- A set of numbers is words of 128 bits: the number n is in it if bit n % 128 of word n / 128 is set. A word that is missing has none.
use Rattle.std.specs.Prelude.{◌≡◌, ℕ, ◌/◌, ◌%◌, List, Bool, true, false, nat_eq, slice_index}
use Rattle.std.specs.Int.{bit_at}

-- a bit of a word is set
abbrev pub in_word : ℕ → ℕ → Bool
in_word word bit = nat_eq (bit_at word bit) 1

-- a number is in a set
abbrev pub member : List ℕ → ℕ → Bool
member words number = in_word (slice_index words (number / 128)) (number % 128)

-- each number of the first set is in the second
abbrev pub IsWithin : List ℕ → List ℕ → Type 0
IsWithin wanted words = (number : ℕ) → member wanted number ≡ true → member words number ≡ true

-- no number of the first set is in the second
abbrev pub AreApart : List ℕ → List ℕ → Type 0
AreApart unwanted words = (number : ℕ) → member unwanted number ≡ true → member words number ≡ false

-- the sets have the same numbers
abbrev pub AreSame : List ℕ → List ℕ → Type 0
AreSame words others = (number : ℕ) → member words number ≡ member others number
