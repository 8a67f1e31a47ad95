-- The levels that a search has found, in the order of their depths.
use Rattle.std.specs.Prelude.{◌≡◌, ℕ, ◌+◌, ◌<◌, ◌≤◌, true, List, length, Some, slice_get}
use Rattle.pz_game.specs.declared.direction.Dir.{Dir}
use Rattle.pz_game.specs.declared.direction.Dir.TheVariants.{Action}
use Rattle.pz_sheet.specs.Grid.{Grid}
use Rattle.pz_solve.specs.Moves.{Reached, Stands, Wins, DeadEnd}
use Rattle.pz_solve.specs.Winning.{Moves, wins}

-- a level that was found: how many presses lead to it, from which level before it, and by which press
pub record Found : Type 0 where
  pub grid : Grid
  pub depth : ℕ
  pub parent : ℕ
  pub input : Dir

-- the level that a search starts from
abbrev pub start_of : Grid → Found
start_of grid = record { grid = grid; depth = 0; parent = 0; input = Action }

-- a level is among those found, at this depth at most
abbrev pub IsFoundWithin : List Found → ℕ → Grid → Type 0
IsFoundWithin found depth grid = (index : ℕ) × (here : Found) × (slice_get found index ≡ Some here) × (here.grid ≡ grid) × (here.depth ≤ depth)

-- a move from a level of this depth doesn't win, and the level that it leads to is found
abbrev pub IsTried : List Found → ℕ → Reached → Type 0
IsTried found depth (Stands next) = IsFoundWithin found (depth + 1) next
IsTried found depth Wins = ⊥
IsTried found depth DeadEnd = Unit {0}

-- a level was led to by the move from another one that was found before it
pub record IsLed (moves : Moves) (found : List Found) (index : ℕ) (here : Found) : Type 0 where
  pub before : Found
  pub earlier : here.parent < index
  pub is : slice_get found here.parent ≡ Some before
  pub deeper : here.depth ≡ before.depth + 1
  pub led : moves before.grid here.input ≡ Stands here.grid

-- what holds of a search that has tried each move from the first `tried` levels
pub record IsSearch (moves : Moves) (start : Grid) (found : List Found) (tried : ℕ) : Type 0 where
  pub first : slice_get found 0 ≡ Some (start_of start)
  pub led : (index : ℕ) (here : Found) → 0 < index → slice_get found index ≡ Some here → IsLed moves found index here
  pub sorted : (index later : ℕ) (a b : Found) → index ≤ later → slice_get found index ≡ Some a → slice_get found later ≡ Some b → a.depth ≤ b.depth
  pub near : (index : ℕ) (a b : Found) → slice_get found tried ≡ Some a → slice_get found index ≡ Some b → b.depth ≤ a.depth + 1
  pub done : (index : ℕ) (here : Found) (input : Dir) → index < tried → slice_get found index ≡ Some here → IsTried found here.depth (moves here.grid input)

-- these presses win, and they are one more than a level's depth
pub record IsWinOf (moves : Moves) (start : Grid) (depth : ℕ) (inputs : List Dir) : Type 0 where
  pub win : wins moves inputs start ≡ true
  pub long : length inputs ≡ depth + 1
