-- Laws of levels and their movement.
use Rattle.std.specs.Prelude.{◌≡◌, ℕ, ◌<◌, List, true, false, Option, IsTrue, ◌↔◌}
use Rattle.pz_game.specs.declared.direction.Dir.{Dir}
use Rattle.pz_cells.specs.declared.piece.Piece.{Piece}
use Rattle.pz_cells.specs.Cell.{IsCell}
use Rattle.pz_sheet.specs.Grid.{Grid, IsLawful}
use Rattle.pz_cells.specs.Standing.{standing}
use Rattle.pz_sheet.specs.Sameness.{same_grid}
use Rattle.pz_grid.specs.Movement.{pass_of, moving, settle, after_movement}
use Rattle.pz_sheet.specs.Pushing.{pushed_level}

-- the test of two levels decides whether they are equal
abbrev pub Decides : Type 0
Decides = (a b : Grid) → IsTrue (same_grid a b) ↔ (a ≡ b)

-- a pass that moves something leaves fewer pieces that head somewhere
abbrev pub MovesStill : Type 0
MovesStill = (grid : Grid) → (pass_of grid).moved ≡ true → moving (pass_of grid).grid < moving grid

-- after the passes of the movement one more would move nothing
abbrev pub Settles : Type 0
Settles = (grid : Grid) → (pass_of (settle (moving grid) grid)).moved ≡ false

-- after the movement nothing heads anywhere, and nothing moves any more
abbrev pub Rests : Type 0
Rests = (grid : Grid) → (moving (after_movement grid) ≡ 0) × ((pass_of (after_movement grid)).moved ≡ false)

-- a lawful level stays lawful when a press gives the player a direction, and in the movement
abbrev pub StaysLawful : Type 0
StaysLawful = (grid : Grid) → IsLawful grid → ((players : List ℕ) (dir : Dir) → IsLawful (pushed_level players dir grid)) × IsLawful (after_movement grid)

-- two cells of a game are equal if each object stands in both, with the same heading, or in neither
abbrev pub CellsAreWhatStands : Type 0
CellsAreWhatStands = (depth : ℕ) (layers : List ℕ) (a b : List (Option Piece)) → IsCell depth layers a → IsCell depth layers b → ((object : ℕ) → standing a object ≡ standing b object) → a ≡ b
