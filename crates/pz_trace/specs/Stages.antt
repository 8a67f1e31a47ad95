-- The stages of a step: the input is given to the players, each early block runs to rest, what heads somewhere moves, each late
-- block runs to rest, and the step ends. Each stage has the level after it, the commands that it gave, and whether it changed
-- something. A block that stops ends the stages, since what it leaves is no level of the game.
use Rattle.std.specs.Prelude.{ℕ, suc, not, List, [], ◌∷◌, drop, fold, Option, Some, None, Result, Ok, Err}
use Rattle.pz_game.specs.declared.direction.Dir.{Dir}
use Rattle.pz_game.specs.Game.{players_of}
use Rattle.pz_game.specs.declared.game.GameParts.{GameParts}
use Rattle.pz_program.specs.Commands.{no_commands, either}
use Rattle.pz_program.specs.declared.commands.Commands.{Commands}
use Rattle.pz_program.specs.declared.instance.Block.{Block}
use Rattle.pz_program.specs.declared.instance.Program.{Program}
use Rattle.pz_sheet.specs.Grid.{Grid}
use Rattle.pz_sheet.specs.Sameness.{same_grid}
use Rattle.pz_grid.specs.Movement.{after_movement}
use Rattle.pz_turn.specs.declared.outcome.StepFault.{StepFault}
use Rattle.pz_turn.specs.Outcome.{Outcome, nothing_run}
use Rattle.pz_turn.specs.Step.{block_runs, given_input, must_cancel, with_cancel, end_of_step}
use Rattle.pz_trace.specs.declared.stage.Part.{Part}
use Rattle.pz_trace.specs.declared.stage.Part.TheVariants.{Input, Early, Movement, Late, End}

-- a stage: which part of the step it is, and what that part gave
pub record StageState : Type 0 where
  pub part : Part
  pub gave : Outcome Grid

-- the stages of a step in order, and the stop, if there was one
pub record Course : Type 0 where
  pub stages : List StageState
  pub stop : Option StepFault

-- nothing more
abbrev pub over : Course
over = record { stages = []; stop = None }

-- stages.stop
abbrev pub stop_course : StepFault → Course
stop_course fault = record { stages = []; stop = Some fault }

abbrev pub with_stage_before : StageState → Course → Course
with_stage_before stage later = record { stages = stage ∷ later.stages; stop = later.stop }

-- between two stages: the level, and the commands given so far
pub record Standing : Type 0 where
  pub level : Grid
  pub commands : Commands

abbrev pub after : Standing → Outcome Grid → Standing
after standing gave = record { level = gave.level; commands = either standing.commands gave.commands }

-- stages.commands: a part that gave this or stopped, and what follows it
abbrev pub going_on : Part → Standing → (Standing → Course) → Result (Outcome Grid) StepFault → Course
going_on part standing later (Err fault) = stop_course fault
going_on part standing later (Ok gave) = with_stage_before (record { part = part; gave = gave }) (later (after standing gave))

-- blocks in order, the first of them with this number, and what follows them
abbrev pub blocks_from : (ℕ → Part) → ℕ → (Standing → Course) → List Block → Standing → Course
blocks_from part number later [] standing = later standing
blocks_from part number later (block ∷ blocks) standing =
    going_on (part number) standing (blocks_from part (suc number) later blocks) (block_runs block standing.level)

-- what leads from one level to another and gives no command
abbrev pub change_between : Grid → Grid → Outcome Grid
change_between before after = record { level = after; commands = no_commands; changed = not (same_grid after before) }

-- a step that is asked for: of which game, from which level, with which input
pub record Asked : Type 0 where
  pub game : GameParts
  pub program : Program
  pub grid : Grid
  pub input : Option Dir

-- stages.end: the end: the step may be cancelled, and then ends with the level before it
abbrev pub end_of : Asked → Standing → Outcome Grid
end_of asked standing =
    end_of_step asked.grid standing.level (with_cancel (must_cancel asked.game asked.input asked.grid standing.level) standing.commands)

abbrev pub end_from : Asked → Standing → Course
end_from asked standing = with_stage_before (record { part = End; gave = end_of asked standing }) over

-- stages.late: from the late block of this number on
abbrev pub late_from : Asked → ℕ → Standing → Course
late_from asked number standing = blocks_from Late number (end_from asked) (drop number asked.program.late) standing

-- stages.movement: from the movement on
abbrev pub movement_from : Asked → Standing → Course
movement_from asked standing = going_on Movement standing (late_from asked 0) (Ok (change_between standing.level (after_movement standing.level)))

-- stages.early: from the early block of this number on
abbrev pub early_from : Asked → ℕ → Standing → Course
early_from asked number standing = blocks_from Early number (movement_from asked) (drop number asked.program.early) standing

-- stages.input: from the input on: a press gives its direction to the player, a tick gives none
abbrev pub input_from : Asked → Standing → Course
input_from asked standing =
    going_on Input standing (early_from asked 0) (Ok (change_between asked.grid (given_input (players_of asked.game) asked.input standing.level)))

-- the stages of a step
unfoldable pub stages_of : GameParts → Program → Grid → Option Dir → Course
stages_of game program grid input =
    input_from (record { game = game; program = program; grid = grid; input = input }) (record { level = grid; commands = no_commands })

-- what the last of these stages gave, or else nothing has happened
abbrev pub last_gave : Grid → List StageState → Outcome Grid
last_gave grid stages = fold (λ before stage. stage.gave) (nothing_run grid) stages

-- how a step with these stages ends
abbrev pub end_in : Grid → Course → Result (Outcome Grid) StepFault
end_in grid course = elim course.stop [ None ↦ Ok (last_gave grid course.stages) | Some fault ↦ Err fault ]
