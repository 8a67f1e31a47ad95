-- Worked cases of marks and of the lines that are searched, on the level p#.# with its marks: object 0 is the background, 2 the player, 3 a
-- wall, 4 a crate, 6 a mark.
use Rattle.pz_grid_laws.proofs.Common.{Absent, Down, LevelState, Present, Right, RuleRow, Some, Up, [], admitted_count, false, in_column, in_row, places, refl, searches_level, searches_line, start_count, true, ◌∷◌, ◌≡◌}
use Rattle.pz_grid_laws.proofs.WorkedPlaces.{bare, player, wall, level, item, only, at, row}

-- a set is the sum of two to the power of its objects
abbrev state : LevelState
state = record {
  grid = level 4 1 (player ∷ wall ∷ bare ∷ wall ∷ []);
  row_marks = (13 ∷ []) ∷ [];
  column_marks = (5 ∷ []) ∷ (9 ∷ []) ∷ (1 ∷ []) ∷ (9 ∷ []) ∷ [];
  level_marks = 13 ∷ [];
}

-- [ Player no Mark | ... | Wall ]
abbrev to_a_wall : RuleRow
to_a_wall = record { cells = (item 2 Present ∷ item 6 Absent ∷ []) ∷ only 3 ∷ []; gap_at = Some 1 }

-- the row has a wall, the third column has none
pub wall_in_the_row : in_row state.grid 0 3 ≡ true
wall_in_the_row = refl

pub no_wall_in_the_column : in_column state.grid 2 3 ≡ false
no_wall_in_the_column = refl

-- two places, with gaps of no cell and of two cells; both start in one cell of the only admitted line
pub two_places : places state.grid to_a_wall Right ≡ at 0 0 0 ∷ at 0 0 2 ∷ []
two_places = refl

pub one_start : start_count state.grid Right (places state.grid to_a_wall Right) ≡ 1
one_start = refl

pub one_line : admitted_count state to_a_wall Right ≡ 1
one_line = refl

-- the column of the player is admitted by the first cell, and isn't searched: it has no wall
pub one_column : admitted_count state to_a_wall Up ≡ 1
one_column = refl

pub not_searched : searches_line state to_a_wall Up 0 ≡ false
not_searched = refl

-- no line and no level is searched for what stands nowhere
pub no_line : admitted_count state (row (only 4 ∷ [])) Right ≡ 0
no_line = refl

pub no_level : searches_level state (row (only 4 ∷ [])) ≡ false
no_level = refl

-- a cell without items is searched for in each line, and so is one that only has items under `no`
pub all_columns : admitted_count state (row ([] ∷ [])) Down ≡ 4
all_columns = refl

pub what_is_forbidden_says_nothing : admitted_count state (row ((item 3 Absent ∷ []) ∷ [])) Up ≡ 4
what_is_forbidden_says_nothing = refl
