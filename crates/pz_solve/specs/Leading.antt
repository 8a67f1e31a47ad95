-- What the program's moves say.
use Rattle.pz_game.specs.declared.game.GameParts.{GameParts}
use Rattle.pz_sheet.specs.Grid.{Grid, IsOfGame, SameSize}
use Rattle.pz_turn.specs.declared.stepping.StepEnd.{StepEnd}
use Rattle.pz_turn.specs.Outcome.{Outcome}
use Rattle.pz_solve.specs.declared.moves.Move.{Move}
use Rattle.pz_solve.specs.declared.moves.Move.TheVariants as move
use Rattle.pz_solve.specs.declared.moves.Next.{Next}
use Rattle.pz_solve.specs.declared.moves.Next.TheVariants as next
use Rattle.pz_solve.specs.Moves.{Reached, Stands, Wins, DeadEnd}

abbrev pub end_of : StepEnd → Outcome Grid
end_of end = record { level = end.level.grid; commands = end.commands; changed = end.changed }

-- where a move leads
abbrev pub reached_by : Move → Reached
reached_by (move.Stands level) = Stands level.grid
reached_by move.Wins = Wins
reached_by move.DeadEnd = DeadEnd

-- where it leads once what comes after a step was played
abbrev pub reached_in : (Grid → Reached) → Next → Reached
reached_in tick (next.Tick level) = tick level.grid
reached_in tick (next.End end) = reached_by end

-- a level to which a move leads belongs to the game
abbrev pub IsMoveIn : GameParts → Move → Type 0
IsMoveIn game (move.Stands level) = IsOfGame game level.grid
IsMoveIn game move.Wins = Unit {0}
IsMoveIn game move.DeadEnd = Unit {0}

abbrev pub IsNextIn : GameParts → Next → Type 0
IsNextIn game (next.Tick level) = IsOfGame game level.grid
IsNextIn game (next.End end) = IsMoveIn game end

-- a level to which a move leads has the size of another
abbrev pub MoveKeepsSize : Grid → Move → Type 0
MoveKeepsSize before (move.Stands level) = SameSize before level.grid
MoveKeepsSize before move.Wins = Unit {0}
MoveKeepsSize before move.DeadEnd = Unit {0}

abbrev pub NextKeepsSize : Grid → Next → Type 0
NextKeepsSize before (next.Tick level) = SameSize before level.grid
NextKeepsSize before (next.End end) = MoveKeepsSize before end
