-- What is left of a step that is traced.
use Rattle.std.specs.Prelude.{◌≡◌, Option, Some, None}
use Rattle.pz_program.specs.Instance.{IsProgramOf}
use Rattle.pz_sheet.specs.Grid.{Grid, IsOfGame, SameSize}
use Rattle.pz_trace.specs.declared.play.Phase.{Phase}
use Rattle.pz_trace.specs.declared.play.Phase.TheVariants as phase
use Rattle.pz_trace.specs.declared.play.Play.{Play}
use Rattle.pz_trace.specs.declared.stage.Stage.{Stage}
use Rattle.pz_trace.specs.Stages.{StageState, Course, Standing, Asked, over, stop_course, with_stage_before, input_from, early_from, late_from}

-- what is left in a phase
abbrev pub left_in : Phase → Asked → Standing → Course
left_in phase.Input asked standing = input_from asked standing
left_in (phase.Early number) asked standing = early_from asked number standing
left_in (phase.Late number) asked standing = late_from asked number standing
left_in phase.Over asked standing = over
left_in (phase.Stopped fault) asked standing = stop_course fault

abbrev pub asked_in : Play → Asked
asked_in play = record { game = play.game.now; program = play.program.now; grid = play.before.now.grid; input = play.input }

abbrev pub standing_in : Play → Standing
standing_in play = record { level = play.level.grid; commands = play.commands }

abbrev pub course_left : Play → Course
course_left play = left_in play.phase (asked_in play) (standing_in play)

-- what contracts see of a step that is traced: the level that it began with, the level after the stages so far, and what is left
pub record Traced : Type 0 where
  pub grid : Grid
  pub level : Grid
  pub course : Course

-- the levels and the rules belong to the game
pub record IsTraced (play : Play) : Type 0 where
  pub program : IsProgramOf play.game.now.layers play.program.now
  pub before : IsOfGame play.game.now play.before.now.grid
  pub size : SameSize play.before.now.grid play.level.grid

-- a stage that a call answers, with the level after it
abbrev pub with_level : Stage → Grid → StageState
with_level stage level = record { part = stage.part; gave = record { level = level; commands = stage.commands; changed = stage.changed } }

-- an answer is the first of the stages that were left, and the level is the one after it
abbrev pub Yields : Course → Option Stage → Grid → Course → Type 0
Yields before None level after = (before ≡ over) × (after ≡ over)
Yields before (Some stage) level after = before ≡ with_stage_before (with_level stage level) after
