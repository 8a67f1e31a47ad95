-- Lists of characters.
use Rattle.std.specs.Prelude.{ℕ, ◌-◌, Bool, false, ◌==◌, List, length, slice_get}
use Rattle.std.specs.Option.{option_map_or}
use Rattle.std.specs.Str.{bytes_eq, skip_leading_whitespace, drop_trailing_whitespace}
use Rattle.pz_base.specs.Name.{lower_case}

-- text.white-space: without the white space at both ends; all white space of Unicode counts
abbrev pub trimmed_text : List ℕ → List ℕ
trimmed_text cs = drop_trailing_whitespace (skip_leading_whitespace cs)

-- the characters spell a keyword, in any case; the keyword itself is in small letters
abbrev pub is_word : List ℕ → List ℕ → Bool
is_word cs word = bytes_eq (lower_case cs) word

-- the last character is this one
abbrev pub ends_in : ℕ → List ℕ → Bool
ends_in k cs = option_map_or (λ c. c == k) (slice_get cs (length cs - 1)) false
