-- Names, as bytes.
use Rattle.std.specs.Prelude.{ℕ, List, map, encode_utf8_all}
use Rattle.std.specs.Char.{to_ascii_lowercase}

-- text.folding: ASCII letters in lower case, the one folding there is
abbrev pub lower_case : List ℕ → List ℕ
lower_case cs = map to_ascii_lowercase cs

-- the name that a word spells: names and keywords ignore case
abbrev pub name_of : List ℕ → List ℕ
name_of word = encode_utf8_all (lower_case word)
