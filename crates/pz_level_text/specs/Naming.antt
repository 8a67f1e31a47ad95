-- Sets of objects that have recorded names.
use Rattle.std.specs.Prelude.{◌≡◌, ℕ, ◌<◌, Bool, true, List, [], length, slice_index_or}
use Rattle.pz_sets.specs.Sets.{member}
use Rattle.pz_record.specs.CellNames.{set_of, same_set}
use Rattle.pz_level_text.specs.LevelNames.{chosen_from}

-- the names of a game's objects, and those that were recorded of each cell
pub record NamingView : Type 0 where
  pub objects : List (List ℕ)
  pub recorded : List (List (List ℕ))

-- the objects of a set have these names, and no others
abbrev pub has_names : List (List ℕ) → List ℕ → List (List ℕ) → Bool
has_names objects standing names = same_set (set_of (chosen_from (member standing) 0 objects)) names

-- a set of objects has the names of a recorded cell
abbrev pub IsNamedAs : List (List ℕ) → List (List (List ℕ)) → List ℕ → ℕ → Type 0
IsNamedAs objects recorded standing cell = (cell < length recorded) × (has_names objects standing (slice_index_or recorded cell []) ≡ true)
