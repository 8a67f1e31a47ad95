-- What the lines of OBJECTS and LEGEND say about their names, by the numbers of the names.
use Rattle.std.specs.Prelude.{◌≡◌, ℕ, ◌+◌, ◌<◌, ◌==◌, true, List, [], ◌∷◌, ◌++◌, length, map, slice_get, unwrap_or}
use Rattle.std.specs.List.{list_any}
use Rattle.std.specs.Option.{option_map_or}
use Rattle.pz_base.specs.NameSet.{number_in}
use Rattle.pz_names.specs.declared.legend.Said.{Said}
use Rattle.pz_names.specs.declared.legend.Said.TheVariants.{Same, AllOf, AnyOf}
use Rattle.pz_names.specs.declared.legend.Definition.{Definition}
use Rattle.pz_names.specs.declared.name_line.NameLine.{NameLine}
use Rattle.pz_names.specs.declared.meaning.Meaning.{Meaning}
use Rattle.pz_names.specs.declared.meaning.Meaning.TheVariants as meaning

-- the number of a name, or how many names there are if it is none of them
abbrev pub number_or_end : List (List ℕ) → List ℕ → ℕ
number_or_end names name = unwrap_or (number_in names name) (length names)

-- what a line of LEGEND says, by the numbers of the names
abbrev pub meaning_by : List (List ℕ) → Said → Meaning
meaning_by names (Same name) = meaning.Same (number_or_end names name)
meaning_by names (AllOf parts) = meaning.AllOf (map (number_or_end names) parts)
meaning_by names (AnyOf parts) = meaning.AnyOf (map (number_or_end names) parts)

-- each name of an object's line is the object: it has the object's number, and the number of the first of these names
abbrev pub object_meanings : ℕ → ℕ → List NameLine → List Meaning
object_meanings place first [] = []
object_meanings place first (line ∷ lines) =
    map (λ name. meaning.Itself place first) line.names ++ object_meanings (place + 1) (first + length line.names) lines

-- what the lines say about their names, in the order of the names
abbrev pub meanings_of : List NameLine → List (List ℕ) → List Definition → List Meaning
meanings_of objects names definitions = object_meanings 0 0 objects ++ map (λ d. meaning_by names d.said) definitions

-- the names on the right of a line
abbrev pub parts_of : Meaning → List ℕ
parts_of (meaning.Itself place first) = []
parts_of (meaning.Same other) = other ∷ []
parts_of (meaning.AllOf parts) = parts
parts_of (meaning.AnyOf parts) = parts

abbrev pub parts_at : List Meaning → ℕ → List ℕ
parts_at meanings number = option_map_or parts_of (slice_get meanings number) []

-- each name on the right of a line is one of the names
abbrev pub StaysInside : List Meaning → Type 0
StaysInside meanings = (k p : ℕ) → list_any (λ q. q == p) (parts_at meanings k) ≡ true → p < length meanings
