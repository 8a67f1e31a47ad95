-- Which objects stand at a position, and where they head.
use Rattle.std.specs.Prelude.{ℕ, Option, None, Bool, nat_lt, ◌&&◌, if◌then◌else◌, is_some, unwrap_or}
use Rattle.pz_game.specs.declared.direction.Dir.{Dir}
use Rattle.pz_cells.specs.Standing.{standing}
use Rattle.pz_sheet.specs.Grid.{Grid, cell_at}

-- where an object at a position heads, if it stands there; off the map nothing stands
abbrev pub standing_at : Grid → ℕ → ℕ → ℕ → Option (Option Dir)
standing_at grid x y object = if nat_lt x grid.width && nat_lt y grid.height then standing (cell_at grid x y) object else None

-- the object stands at the position
abbrev pub stands : Grid → ℕ → ℕ → ℕ → Bool
stands grid x y object = is_some (standing_at grid x y object)

-- where the object at the position heads: nowhere if it is still, or not there
abbrev pub heading_at : Grid → ℕ → ℕ → ℕ → Option Dir
heading_at grid x y object = unwrap_or (standing_at grid x y object) None
