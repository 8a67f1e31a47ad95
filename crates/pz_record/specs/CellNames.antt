-- The names of a cell: each once, in the order of their bytes.
use Rattle.std.specs.Prelude.{ℕ, ◌&&◌, Bool, List, [], fold}
use Rattle.std.specs.List.{list_any, list_all}
use Rattle.std.specs.Str.{bytes_eq}
use Rattle.std.specs.Ordering.{nat_cmp}
use Rattle.std.specs.Cmp.Lexicographic.{slice_cmp}
use Rattle.std.specs.BTreeSet.{insert_key}

-- the names with one more, at its place
unfoldable pub with_name : List (List ℕ) → List ℕ → List (List ℕ)
with_name names name = insert_key (slice_cmp nat_cmp) names name

-- names as a set
abbrev pub set_of : List (List ℕ) → List (List ℕ)
set_of names = fold with_name [] names

abbrev pub has_name : List (List ℕ) → List ℕ → Bool
has_name names name = list_any (bytes_eq name) names

-- both have the same names
unfoldable pub same_set : List (List ℕ) → List (List ℕ) → Bool
same_set xs ys = list_all (has_name ys) xs && list_all (has_name xs) ys
