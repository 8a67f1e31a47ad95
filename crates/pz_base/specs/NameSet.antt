-- Sets of names, in the order of first mention.
use Rattle.std.specs.Prelude.{ℕ, Bool, List, Option, position}
use Rattle.std.specs.List.{list_any}
use Rattle.std.specs.Str.{bytes_eq}

abbrev pub is_name_of : List (List ℕ) → List ℕ → Bool
is_name_of names name = list_any (bytes_eq name) names

-- the number of a name: its place among the names
abbrev pub number_in : List (List ℕ) → List ℕ → Option ℕ
number_in names name = position (bytes_eq name) names
