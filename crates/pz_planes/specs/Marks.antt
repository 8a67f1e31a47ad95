-- The marks of lines: for each line the set of the objects that are noted in it.
use Rattle.std.specs.Prelude.{◌≡◌, ℕ, ◌<◌, ◌↔◌, List, [], false, slice_index_or}
use Rattle.pz_sets.specs.Sets.{member}
use Rattle.pz_planes.specs.Planes.{LineSets, IsMissingIn}

-- each line's set has exactly the objects that are noted at some position of the line
abbrev pub AreMarks : LineSets → List (List ℕ) → Type 0
AreMarks sets marks = (line object : ℕ) → line < sets.count → (member (slice_index_or marks line []) object ≡ false) ↔ IsMissingIn sets line object
