-- The answers of a search.
use Rattle.std.specs.Prelude.{ℕ, ◌+◌, ◌*◌, ◌/◌, ◌<◌, ◌≤◌, List, length, min}
use Rattle.std.specs.List.{IsDistinct, All}
use Rattle.pz_sheet.specs.Grid.{Grid}
use Rattle.pz_sheet.specs.Sameness.{same_grid}
use Rattle.pz_solve.specs.declared.answer.Answer.{Answer}
use Rattle.pz_solve.specs.declared.answer.Answer.TheVariants.{Solved, Unsolvable, OutOfBounds}
use Rattle.pz_solve.specs.declared.answer.Bounds.{Bounds}
use Rattle.pz_solve.specs.declared.answer.TheConstants.{BYTES_OF_CELL, BYTES_OF_LEVEL}
use Rattle.pz_solve.specs.Winning.{Moves, IsReached, IsShortest, NoneWins, NoneWinsWithin}

-- more than so many different levels are reached by so many presses
pub record AreMore (moves : Moves) (start : Grid) (presses levels : ℕ) : Type 0 where
  pub found : List Grid
  pub distinct : IsDistinct same_grid found
  pub reached : All (IsReached moves start presses) found
  pub more : levels < length found

-- how many bytes a level takes at most that is kept
abbrev pub bytes_of : Grid → ℕ
bytes_of level = length level.cells * BYTES_OF_CELL + BYTES_OF_LEVEL

-- how many levels are allowed: so many, as far as they have room
abbrev pub most_kept : Bounds → Grid → ℕ
most_kept bounds level = min bounds.levels (bounds.bytes / bytes_of level)

-- no list of at most so many presses wins, and one press more reaches more levels than were allowed
pub record IsOutOfBounds (moves : Moves) (start : Grid) (bounds : Bounds) (levels inputs : ℕ) : Type 0 where
  pub none : NoneWinsWithin moves start inputs
  pub allowed : most_kept bounds start ≤ levels
  pub more : AreMore moves start (inputs + 1) levels

-- an answer is right
abbrev pub IsAnswer : Moves → Grid → Bounds → Answer → Type 0
IsAnswer moves start bounds (Solved inputs) = IsShortest moves start inputs.items
IsAnswer moves start bounds Unsolvable = NoneWins moves start
IsAnswer moves start bounds (OutOfBounds levels inputs) = IsOutOfBounds moves start bounds levels inputs
