-- The last position of a line before an end at which a rule's cell holds, and whether it holds somewhere.
use Rattle.std.specs.Prelude.{◌≡◌, ℕ, ◌<◌, List, Bool, true, false, Option, Some, None}
use Rattle.pz_game.specs.declared.pattern.Item.{Item}
use Rattle.pz_cells.specs.Pattern.{pattern_holds}
use Rattle.pz_sheet.specs.declared.line.Line.{Line}
use Rattle.pz_sheet.specs.declared.line.Walk.{Walk}
use Rattle.pz_sheet.specs.Grid.{Grid, cell_at}
use Rattle.pz_sets.specs.Sets.{in_word}
use Rattle.pz_sheet.specs.Line.{line_length, line_count, holds_in, runs_in}
use Rattle.pz_sheet.specs.Runs.{IsRunOf}

-- the greatest number below `end` that passes a test, if there is one
abbrev pub IsLast : (ℕ → Bool) → ℕ → Option ℕ → Type 0
IsLast test end None = (number : ℕ) → number < end → test number ≡ false
IsLast test end (Some found) =
    (found < end) × (test found ≡ true) × ((number : ℕ) → found < number → number < end → test number ≡ false)

-- a rule's cell holds at some position of the map
pub record HoldsSomewhere (grid : Grid) (pattern : List Item) : Type 0 where
  pub x : ℕ
  pub y : ℕ
  pub x_in : x < grid.width
  pub y_in : y < grid.height
  pub holds : pattern_holds (cell_at grid x y) pattern ≡ true

-- a rule's cell holds somewhere in a line of the map
pub record HoldsInLine (grid : Grid) (line : Line) (pattern : List Item) : Type 0 where
  pub at : ℕ
  pub at_in : at < line_length grid line.axis
  pub holds : holds_in grid line pattern at ≡ true

-- rules' cells may hold from these positions of a line, of the first 128, and from no other of these
abbrev pub MayStartAt : Grid → Walk → List (List Item) → ℕ → Type 0
MayStartAt grid walk patterns starts = (at : ℕ) → at < line_length grid walk.line.axis → at < 128 → runs_in grid walk patterns at ≡ true → in_word starts at ≡ true

-- a run that is looked for along a line of a level
pub record SoughtRun : Type 0 where
  pub grid : Grid
  pub walk : Walk
  pub patterns : List (List Item)

-- the run holds from a position of its line on
abbrev pub run_holds_from : SoughtRun → ℕ → Bool
run_holds_from run at = runs_in run.grid run.walk run.patterns at

-- the line is on the map, and the run is of the level's game; it starts, in the first 128 positions, only at those of a set
pub record IsRunSearch (run : SoughtRun) (starts : ℕ) : Type 0 where
  pub line_in : run.walk.line.number < line_count run.grid run.walk.line.axis
  pub of_game : IsRunOf run.grid.layers run.patterns
  pub nowhere_else : MayStartAt run.grid run.walk run.patterns starts
