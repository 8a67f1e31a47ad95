-- The lines of a map: rows and columns, and their positions.
use Rattle.std.specs.Prelude.{◌≡◌, ℕ, ◌<◌, List, Bool}
use Rattle.pz_game.specs.declared.direction.Dir.{Dir}
use Rattle.pz_game.specs.declared.direction.Dir.TheVariants.{Up, Down, Left, Right}
use Rattle.pz_game.specs.declared.pattern.Item.{Item}
use Rattle.pz_cells.specs.Pattern.{pattern_holds}
use Rattle.pz_planes.specs.declared.line.Axis.{Axis}
use Rattle.pz_planes.specs.declared.line.Axis.TheVariants.{Horizontal, Vertical}
use Rattle.pz_planes.specs.declared.line.Way.{Way}
use Rattle.pz_planes.specs.declared.line.Way.TheVariants.{Ahead, Back}
use Rattle.pz_sheet.specs.declared.line.Line.{Line}
use Rattle.pz_sheet.specs.declared.line.Walk.{Walk}
use Rattle.pz_sheet.specs.Grid.{Grid, cell_at}
use Rattle.pz_sheet.specs.Runs.{run_holds}

-- the row and the column of this number
abbrev pub row_of : ℕ → Line
row_of number = record { axis = Horizontal; number = number }

abbrev pub column_of : ℕ → Line
column_of number = record { axis = Vertical; number = number }

-- how many positions a line has
abbrev pub line_length : Grid → Axis → ℕ
line_length grid Horizontal = grid.width
line_length grid Vertical = grid.height

-- how many lines there are
abbrev pub line_count : Grid → Axis → ℕ
line_count grid Horizontal = grid.height
line_count grid Vertical = grid.width

-- a position of a line of the map
abbrev pub IsOnLine : Grid → Line → ℕ → Type 0
IsOnLine grid line at = (line.number < line_count grid line.axis) × (at < line_length grid line.axis)

-- the column and the row of a position of a line
abbrev pub x_at : Axis → ℕ → ℕ → ℕ
x_at Horizontal number at = at
x_at Vertical number at = number

abbrev pub y_at : Axis → ℕ → ℕ → ℕ
y_at Horizontal number at = number
y_at Vertical number at = at

-- a rule's cell holds at a position of a line
abbrev pub holds_in : Grid → Line → List Item → ℕ → Bool
holds_in grid line pattern at = pattern_holds (cell_at grid (x_at line.axis line.number at) (y_at line.axis line.number at)) pattern

-- how the lines lie that a direction leads along: columns for up and down, else rows
abbrev pub axis_of : Dir → Axis
axis_of Up = Vertical
axis_of Down = Vertical
axis_of _ = Horizontal

-- the direction of a way along a line, and of a walk
abbrev pub dir_along : Axis → Way → Dir
dir_along Horizontal Ahead = Right
dir_along Horizontal Back = Left
dir_along Vertical Ahead = Down
dir_along Vertical Back = Up

abbrev pub dir_of : Walk → Dir
dir_of walk = dir_along walk.line.axis walk.way

-- the walk along the line of this number in a direction
abbrev pub IsWalk : Dir → ℕ → Walk → Type 0
IsWalk dir number walk = (dir_of walk ≡ dir) × (walk.line ≡ record { axis = axis_of dir; number = number })

-- rules' cells hold one after another from a position of a line on, as it is walked
abbrev pub runs_in : Grid → Walk → List (List Item) → ℕ → Bool
runs_in grid walk patterns at = run_holds grid (dir_of walk) (x_at walk.line.axis walk.line.number at) (y_at walk.line.axis walk.line.number at) patterns
