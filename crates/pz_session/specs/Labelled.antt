-- Which level of a board has the labels that its writer of texts keeps.
use Rattle.std.specs.Prelude.{Option, Some, None}
use Rattle.pz_sheet.specs.Grid.{Grid}
use Rattle.pz_session.specs.declared.labelled.Labelled.{Labelled}
use Rattle.pz_session.specs.declared.labelled.Labelled.TheVariants.{Level, Before, Spare, Nothing}

-- that level, of the board's level, the one before its input, and the spare one
abbrev pub labelled_of : Labelled → Grid → Option Grid → Option Grid → Option Grid
labelled_of Level level before spare = Some level
labelled_of Before level before spare = before
labelled_of Spare level before spare = spare
labelled_of Nothing level before spare = None

-- where it is once only the board's level is sure to be where it was
abbrev pub at_level_only : Labelled → Labelled
at_level_only Level = Level
at_level_only _ = Nothing

-- where it is once the board's level was put aside
abbrev pub moved_to : Labelled → Labelled → Labelled
moved_to Level aside = aside
moved_to _ aside = Nothing

-- where it is once the board's level is another one
abbrev pub behind : Labelled → Labelled
behind Level = Nothing
behind other = other
