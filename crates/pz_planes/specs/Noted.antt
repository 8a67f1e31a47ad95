-- The lines for which something is noted, as bits of a word.
use Rattle.std.specs.Prelude.{◌≡◌, ℕ, ◌<◌, List, [], false, slice_index_or}
use Rattle.pz_sets.specs.Sets.{in_word, member}

-- of the first 128 lines only these have something noted
abbrev pub AreAmong : ℕ → List (List ℕ) → Type 0
AreAmong lines sets = (line number : ℕ) → line < 128 → in_word lines line ≡ false → member (slice_index_or sets line []) number ≡ false
