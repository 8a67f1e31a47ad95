-- The marks of lines: for each row, or for each column, the set of the objects that stand there.
use Rattle.std.specs.Prelude.{◌≡◌, ℕ, ◌<◌, List, [], slice_index_or}
use Rattle.pz_sets.specs.Sets.{member}
use Rattle.pz_planes.specs.declared.line.Axis.{Axis}
use Rattle.pz_sheet.specs.Grid.{Grid}
use Rattle.pz_sheet.specs.Line.{line_count}
use Rattle.pz_sheet.specs.Presence.{in_line}

-- each line's set has exactly the objects that stand in the line
abbrev pub AreMarksOf : Grid → Axis → List (List ℕ) → Type 0
AreMarksOf grid axis marks = (number object : ℕ) → number < line_count grid axis → member (slice_index_or marks number []) object ≡ in_line grid (record { axis = axis; number = number }) object
