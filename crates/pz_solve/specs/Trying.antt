-- What trying presses does to a search.
use Rattle.std.specs.Prelude.{◌≡◌, ℕ, ◌≤◌, ◌==◌, if◌then◌else◌, false, List, length, Some, slice_get}
use Rattle.std.specs.List.{All}
use Rattle.pz_game.specs.declared.direction.Dir.{Dir}
use Rattle.pz_game.specs.declared.direction.Dir.TheVariants.{Up, Down, Left, Right, Action}
use Rattle.pz_game.specs.declared.game.GameParts.{GameParts}
use Rattle.pz_sheet.specs.Grid.{Grid, IsOfGame}
use Rattle.pz_solve.specs.declared.search.Noted.{Noted}
use Rattle.pz_solve.specs.declared.search.Noted.TheVariants.{NoRoom}
use Rattle.pz_solve.specs.declared.solving.Tried.{Tried}
use Rattle.pz_solve.specs.declared.solving.Tried.TheVariants as tried
use Rattle.pz_solve.specs.Moves.{Reached, Stands, Wins}
use Rattle.pz_solve.specs.Winning.{Moves}
use Rattle.pz_solve.specs.Found.{Found, IsSearch, IsTried}
use Rattle.pz_solve.specs.Noted.{is_found}

-- the press of a number
abbrev pub input_of : ℕ → Dir
input_of number =
    if number == 0 then Up
    else (if number == 1 then Down
    else (if number == 2 then Left
    else (if number == 3 then Right else Action)))

abbrev pub AreOfGame : GameParts → List Found → Type 0
AreOfGame game found = All (λ here. IsOfGame game here.grid) found

-- what was found stays, with its number
abbrev pub Grows : List Found → List Found → Type 0
Grows old new = (index : ℕ) (here : Found) → slice_get old index ≡ Some here → slice_get new index ≡ Some here

-- a move leads to a level that was not found, and so many levels were found
abbrev pub HasNoRoom : List Found → ℕ → Reached → Type 0
HasNoRoom found most reached = (next : Grid) × (reached ≡ Stands next) × (is_found found next ≡ false) × (most ≤ length found)

-- what trying a press from a level came to
abbrev pub IsOutcome : Moves → List Found → Found → ℕ → Dir → Tried → Type 0
IsOutcome moves found here most input tried.Nothing = IsTried found here.depth (moves here.grid input)
IsOutcome moves found here most input (tried.Wins last) = moves here.grid last ≡ Wins
IsOutcome moves found here most input tried.NoRoom = HasNoRoom found most (moves here.grid input)

-- what noting a level comes to
abbrev pub tried_by : Noted → Tried
tried_by NoRoom = tried.NoRoom
tried_by _ = tried.Nothing

-- a press was tried: what was found stays, and the search goes on
pub record HasTried (moves : Moves) (start : Grid) (old new : List Found) (index : ℕ) (here : Found) (most : ℕ) (input : Dir) (outcome : Tried) : Type 0 where
  pub grows : Grows old new
  pub search : IsSearch moves start new index
  pub comes_to : IsOutcome moves new here most input outcome

-- what trying all presses from a level came to
abbrev pub AreOutcomes : Moves → List Found → Found → ℕ → Tried → Type 0
AreOutcomes moves found here most tried.Nothing = (input : Dir) → IsTried found here.depth (moves here.grid input)
AreOutcomes moves found here most (tried.Wins last) = moves here.grid last ≡ Wins
AreOutcomes moves found here most tried.NoRoom = (input : Dir) × HasNoRoom found most (moves here.grid input)

pub record HasExpanded (moves : Moves) (start : Grid) (old new : List Found) (index : ℕ) (here : Found) (most : ℕ) (outcome : Tried) : Type 0 where
  pub grows : Grows old new
  pub search : IsSearch moves start new index
  pub comes_to : AreOutcomes moves new here most outcome
