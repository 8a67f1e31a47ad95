-- The size of a level.
use Rattle.std.specs.Prelude.{ℕ, ◌*◌, ◌<◌, ◌≤◌}
use Rattle.pz_game.specs.declared.limits.TheConstants.{MOST_SIDE, MOST_CELLS}

-- neither side is empty, and both are within the limits
pub record IsSize (width height : ℕ) : Type 0 where
  pub some_width : 0 < width
  pub some_height : 0 < height
  pub narrow : width ≤ MOST_SIDE
  pub low : height ≤ MOST_SIDE
  pub small : width * height ≤ MOST_CELLS
