-- The names of a text, which spaces separate.
use Rattle.std.specs.Prelude.{ℕ, ◌==◌, Bool, List, [], length, fold, if◌then◌else◌}
use Rattle.std.specs.List.{slice_split}
use Rattle.pz_base.specs.Name.{lower_case}
use Rattle.pz_record.specs.CellNames.{with_name}

-- two spaces in a row have no name between them; a name is kept in lower case
unfoldable pub with_word : List (List ℕ) → List ℕ → List (List ℕ)
with_word names word = if length word == 0 then names else with_name names (lower_case word)

abbrev pub is_space : ℕ → Bool
is_space b = b == 32

-- the names of a text, as a set
unfoldable pub name_set : List ℕ → List (List ℕ)
name_set text = fold with_word [] (slice_split is_space text)
