-- The marks of a level: each row, each column and the whole level has a set of at least the objects that stand there.
use Rattle.std.specs.Prelude.{◌≡◌, ℕ, ◌<◌, List, [], Bool, true, ◌&&◌, ◌||◌, ◌⊎◌, nat_eq, length, slice_index_or}
use Rattle.std.specs.List.{list_any}
use Rattle.pz_sets.specs.Sets.{member}
use Rattle.pz_game.specs.Pattern.{RuleRow}
use Rattle.pz_sheet.specs.Grid.{LevelState}
use Rattle.pz_sheet.specs.Presence.{in_row, in_column}
use Rattle.pz_game.specs.Items.{names_object}

-- an object is in the set of the line of this number
abbrev pub is_marked : List (List ℕ) → ℕ → ℕ → Bool
is_marked marks line object = member (slice_index_or marks line []) object

-- what holds of every level: there is a set for each line, and it holds at least the objects in the line; the level's own set
-- holds at least what the rows' sets do
pub record IsMarked (state : LevelState) : Type 0 where
  pub row_count : length state.row_marks ≡ state.grid.height
  pub column_count : length state.column_marks ≡ state.grid.width
  pub rows : (line object : ℕ) → line < state.grid.height → in_row state.grid line object ≡ true → is_marked state.row_marks line object ≡ true
  pub columns : (line object : ℕ) → line < state.grid.width → in_column state.grid line object ≡ true → is_marked state.column_marks line object ≡ true
  pub all : (line object : ℕ) → line < state.grid.height → is_marked state.row_marks line object ≡ true → member state.level_marks object ≡ true

-- each set holds exactly the objects in its line, and the level's own set exactly what the rows' sets do
pub record IsExact (state : LevelState) : Type 0 where
  pub rows : (line object : ℕ) → line < state.grid.height → is_marked state.row_marks line object ≡ in_row state.grid line object
  pub columns : (line object : ℕ) → line < state.grid.width → is_marked state.column_marks line object ≡ in_column state.grid line object
  pub all : (object : ℕ) → member state.level_marks object ≡ list_any (λ row. member row object) state.row_marks

-- the sets of the lines hold only what they held before, and objects that pass the test for their line
pub record IsWidened (old new : LevelState) (row_has column_has : ℕ → ℕ → Bool) : Type 0 where
  pub rows : (line object : ℕ) → is_marked new.row_marks line object ≡ true → (is_marked old.row_marks line object ≡ true) ⊎ (row_has line object ≡ true)
  pub columns : (line object : ℕ) → is_marked new.column_marks line object ≡ true → (is_marked old.column_marks line object ≡ true) ⊎ (column_has line object ≡ true)

-- the sets of the lines hold only what they held before, and objects that pass the test
abbrev pub IsWidenedBy : LevelState → LevelState → (ℕ → Bool) → Type 0
IsWidenedBy old new test = IsWidened old new (λ line object. test object) (λ line object. test object)

-- a right row of a rule places an object
abbrev pub row_places : ℕ → RuleRow → Bool
row_places object row = list_any (names_object object) row.cells

-- the right of a rule places an object
abbrev pub places_object : List RuleRow → ℕ → Bool
places_object right object = list_any (row_places object) right

-- the set of one line has got the objects that pass the test; the others are unchanged
abbrev pub IsMore : List (List ℕ) → List (List ℕ) → ℕ → (ℕ → Bool) → Type 0
IsMore old new line test = (other object : ℕ) → is_marked new other object ≡ ((nat_eq other line && test object) || is_marked old other object)

-- the objects that pass a test are in the sets of a position's row and column
pub record IsMarkedAt (state : LevelState) (x y : ℕ) (test : ℕ → Bool) : Type 0 where
  pub row : (object : ℕ) → test object ≡ true → is_marked state.row_marks y object ≡ true
  pub column : (object : ℕ) → test object ≡ true → is_marked state.column_marks x object ≡ true
