-- The lines in which a row of a rule may start. A line is admitted if its marks have every object that the row's first cell
-- names as present. The search skips more: each line whose marks lack an object that some cell of the row names as present.
use Rattle.std.specs.Prelude.{◌≡◌, ℕ, List, [], ◌∷◌, Bool, true, false, not, ◌&&◌, ◌||◌, nat_eq, slice_index_or}
use Rattle.std.specs.List.{list_all, list_any, count_by, sum_by, range_with_len}
use Rattle.pz_sets.specs.Sets.{member}
use Rattle.pz_game.specs.declared.direction.Dir.{Dir}
use Rattle.pz_game.specs.declared.direction.Dir.TheVariants.{Up, Down}
use Rattle.pz_game.specs.declared.pattern.Item.{Item}
use Rattle.pz_game.specs.Pattern.{RuleRow}
use Rattle.pz_grid.specs.declared.placing.Place.{Place}
use Rattle.pz_sheet.specs.Grid.{Grid, LevelState}
use Rattle.pz_sheet.specs.declared.line.Line.{Line}
use Rattle.pz_sheet.specs.Line.{axis_of}
use Rattle.pz_game.specs.Items.{names}
use Rattle.pz_grid.specs.Places.{line_count, line_length, row_holds}

-- the line of this number, as it lies on the map: a column for up and down, else a row
abbrev pub line_at : Dir → ℕ → Line
line_at dir number = record { axis = axis_of dir; number = number }

-- the marks of a line: of a column for up and down, else of a row
abbrev pub marks_of : LevelState → Dir → ℕ → List ℕ
marks_of state Up line = slice_index_or state.column_marks line []
marks_of state Down line = slice_index_or state.column_marks line []
marks_of state _ line = slice_index_or state.row_marks line []

-- a set has an item's object, if the item names it as present
abbrev pub marks_item : List ℕ → Item → Bool
marks_item marks item = not (names item.word) || member marks item.object

-- a set has every object that a cell of a rule names as present
abbrev pub marks_cell : List ℕ → List Item → Bool
marks_cell marks cell = list_all (marks_item marks) cell

-- a set has every object that the first cell names as present
abbrev pub admits : List ℕ → List (List Item) → Bool
admits marks [] = true
admits marks (first ∷ rest) = marks_cell marks first

-- a line is admitted for a row
abbrev pub admits_line : LevelState → RuleRow → Dir → ℕ → Bool
admits_line state row dir line = admits (marks_of state dir line) row.cells

-- the number of admitted lines
abbrev pub admitted_count : LevelState → RuleRow → Dir → ℕ
admitted_count state row dir = count_by (admits_line state row dir) (range_with_len 0 (line_count state.grid dir))

-- a line is searched for a row: the line's marks have every object that any cell of the row names as present
abbrev pub searches_line : LevelState → RuleRow → Dir → ℕ → Bool
searches_line state row dir line = list_all (marks_cell (marks_of state dir line)) row.cells

-- a level is searched for a row: the level's own marks have every object that any cell of the row names as present
abbrev pub searches_level : LevelState → RuleRow → Bool
searches_level state row = list_all (marks_cell state.level_marks) row.cells

-- the line in which a place starts, and its position in that line
abbrev pub line_of : Dir → Place → ℕ
line_of Up place = place.x
line_of Down place = place.x
line_of _ place = place.y

abbrev pub start_of : Dir → Place → ℕ
start_of Up place = place.y
start_of Down place = place.y
start_of _ place = place.x

-- no place of a row starts in a line
abbrev pub StartsNowhere : Grid → RuleRow → Dir → ℕ → Type 0
StartsNowhere grid row dir line = (place : Place) → line_of dir place ≡ line → row_holds grid row dir place ≡ false

-- the place starts in this cell of this line
abbrev pub starts_at : Dir → ℕ → ℕ → Place → Bool
starts_at dir line start place = nat_eq (line_of dir place) line && nat_eq (start_of dir place) start

-- in how many cells of a line some place starts
abbrev pub starts_in : Dir → List Place → ℕ → ℕ → ℕ
starts_in dir found size line = count_by (λ start. list_any (starts_at dir line start) found) (range_with_len 0 size)

-- the number of different start cells among some places
abbrev pub start_count : Grid → Dir → List Place → ℕ
start_count grid dir found = sum_by (starts_in dir found (line_length grid dir)) (range_with_len 0 (line_count grid dir))
