-- Rules' cells that hold one after another in a direction. Off the map nothing holds.
use Rattle.std.specs.Prelude.{ℕ, ◌+◌, ◌-◌, ◌<◌, All, length, List, Bool, false, Option, Some, None, nat_lt, nat_le, ◌&&◌, if◌then◌else◌}
use Rattle.std.specs.List.{list_all, enumerate_from}
use Rattle.pz_game.specs.declared.direction.Dir.{Dir}
use Rattle.pz_game.specs.declared.direction.Dir.TheVariants.{Up, Down, Left, Right, Action}
use Rattle.pz_game.specs.declared.pattern.Item.{Item}
use Rattle.pz_game.specs.Pattern.{AreOf}
use Rattle.pz_cells.specs.Pattern.{pattern_holds}
use Rattle.pz_sheet.specs.Grid.{Grid, cell_at}

-- a run of a game whose objects have these layers: one or more rules' cells, each of the game's objects
abbrev pub IsRunOf : List ℕ → List (List Item) → Type 0
IsRunOf layers patterns = (0 < length patterns) × All (AreOf layers) patterns

-- a position, if it is on the map
abbrev pub on_map : Grid → ℕ → ℕ → Option (ℕ × ℕ)
on_map grid x y = if nat_lt x grid.width && nat_lt y grid.height then Some (x, y) else None

-- the position some cells on from another, if it is on the map; the action leads nowhere
abbrev pub along : Grid → Dir → ℕ → ℕ → ℕ → Option (ℕ × ℕ)
along grid Right x y steps = on_map grid (x + steps) y
along grid Left x y steps = if nat_le steps x then on_map grid (x - steps) y else None
along grid Down x y steps = on_map grid x (y + steps)
along grid Up x y steps = if nat_le steps y then on_map grid x (y - steps) else None
along grid Action x y steps = None

-- a rule's cell holds at a position; off the map nothing does
abbrev pub holds_at : Grid → List Item → Option (ℕ × ℕ) → Bool
holds_at grid pattern None = false
holds_at grid pattern (Some (x, y)) = pattern_holds (cell_at grid x y) pattern

-- a rule's cell holds some cells on from a position
abbrev pub holds_along : Grid → Dir → ℕ → ℕ → ℕ × List Item → Bool
holds_along grid dir x y (steps, pattern) = holds_at grid pattern (along grid dir x y steps)

-- rules' cells hold one after another from a position on
abbrev pub run_holds : Grid → Dir → ℕ → ℕ → List (List Item) → Bool
run_holds grid dir x y patterns = list_all (holds_along grid dir x y) (enumerate_from 0 patterns)
