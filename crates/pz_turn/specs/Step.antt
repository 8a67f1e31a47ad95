-- A step: a press gives its direction to each object that is a player. Then come the early blocks, the movement and the late
-- blocks. With `require_player_movement` a press is cancelled if some cell held a player before it and each such cell holds one
-- at the end. A cancelled step leaves the level as it was. A stop in a block is the step's stop, even after `cancel` was given.
use Rattle.std.specs.Prelude.{ℕ, Bool, true, false, not, ◌&&◌, ◌||◌, List, Option, Some, None, Result, Ok, Err, is_some, if◌then◌else◌}
use Rattle.std.specs.List.{list_any, list_all, zip}
use Rattle.pz_game.specs.declared.direction.Dir.{Dir}
use Rattle.pz_game.specs.Game.{players_of}
use Rattle.pz_game.specs.declared.game.GameParts.{GameParts}
use Rattle.pz_program.specs.declared.commands.Commands.{Commands}
use Rattle.pz_program.specs.declared.instance.Block.{Block}
use Rattle.pz_program.specs.declared.instance.Block.TheVariants.{One, Loop}
use Rattle.pz_program.specs.declared.instance.Program.{Program}
use Rattle.pz_program.specs.Commands.{cancel, has, either}
use Rattle.pz_cells.specs.declared.piece.Piece.{Piece}
use Rattle.pz_sheet.specs.Grid.{Grid}
use Rattle.pz_grid.specs.Movement.{after_movement}
use Rattle.pz_sheet.specs.Presence.{holds_one}
use Rattle.pz_sheet.specs.Pushing.{pushed_level}
use Rattle.pz_sheet.specs.Sameness.{same_grid}
use Rattle.pz_turn.specs.declared.outcome.StepFault.{StepFault}
use Rattle.pz_turn.specs.declared.resting.TheConstants.{PASSES}
use Rattle.pz_turn.specs.Applying.{application_of}
use Rattle.pz_turn.specs.Outcome.{Outcome, followed_by}
use Rattle.pz_turn.specs.Rest.{Runs, pass_of, rest_of, group_runs}

-- match.loops: a group or a loop of groups, run to rest
unfoldable pub block_runs : Block → Runs Grid
block_runs (One group) = rest_of PASSES (pass_of application_of group)
block_runs (Loop groups) = rest_of PASSES (pass_of (group_runs PASSES application_of) groups)

-- blocks in order
unfoldable pub blocks_run : List Block → Runs Grid
blocks_run blocks = pass_of block_runs blocks

abbrev pub with_movement : Outcome Grid → Outcome Grid
with_movement end = record { level = after_movement end.level; commands = end.commands; changed = end.changed }

abbrev pub then_moved : Result (Outcome Grid) StepFault → Result (Outcome Grid) StepFault
then_moved (Err fault) = Err fault
then_moved (Ok end) = Ok (with_movement end)

-- step.order: the rules of a step: early blocks, movement, late blocks
unfoldable pub rules_run : Program → Runs Grid
rules_run program grid = followed_by (then_moved (blocks_run program.early grid)) (blocks_run program.late)

-- a press gives its direction to the player; a tick gives none
abbrev pub given_input : List ℕ → Option Dir → Grid → Grid
given_input players None grid = grid
given_input players (Some dir) grid = pushed_level players dir grid

-- if the cell held a player before, it holds one after
abbrev pub keeps_player : List ℕ → List (Option Piece) × List (Option Piece) → Bool
keeps_player players (before, after) = not (holds_one players before) || holds_one players after

-- some cell held a player before, and each such cell holds one after
abbrev pub has_stayed : List ℕ → Grid → Grid → Bool
has_stayed players before after =
    list_any (holds_one players) before.cells && list_all (keeps_player players) (zip before.cells after.cells)

-- step.player-moves: a press that must move the player and hasn't is cancelled
abbrev pub must_cancel : GameParts → Option Dir → Grid → Grid → Bool
must_cancel game input before after =
    game.options.require_player_movement && (is_some input && has_stayed (players_of game) before after)

abbrev pub with_cancel : Bool → Commands → Commands
with_cancel true commands = either commands cancel
with_cancel false commands = commands

-- play.cancel: a cancelled step ends with the level before it; any other has changed the level if the two differ
abbrev pub end_of_step : Grid → Grid → Commands → Outcome Grid
end_of_step before after commands =
    if has commands cancel
    then record { level = before; commands = commands; changed = false }
    else record { level = after; commands = commands; changed = not (same_grid after before) }

-- step.stop
abbrev pub step_ended : GameParts → Option Dir → Grid → Result (Outcome Grid) StepFault → Result (Outcome Grid) StepFault
step_ended game input before (Err fault) = Err fault
step_ended game input before (Ok end) =
    Ok (end_of_step before end.level (with_cancel (must_cancel game input before end.level) end.commands))

-- a step from a level: a press with its direction, or a tick
unfoldable pub step_of : GameParts → Program → Grid → Option Dir → Result (Outcome Grid) StepFault
step_of game program grid input =
    step_ended game input grid (rules_run program (given_input (players_of game) input grid))
