-- The lines of the stages of a session's input: a line for each stage that is told, compact JSON with its keys in the order of their
-- bytes; and where a step stops, a line of the stop behind those of its stages. A block that changed nothing and gave no command isn't
-- told.
use Rattle.std.specs.Prelude.{ℕ, ◌+◌, Bool, true, not, ◌||◌, ◌==◌, List, [], ◌∷◌, ◌++◌, Option, Some, None, codes, decimal}
use Rattle.json.specs.Print.{quoted}
use Rattle.pz_sheet.specs.Grid.{Grid}
use Rattle.pz_level_text.specs.LevelText.{text_of_level}
use Rattle.pz_turn.specs.declared.outcome.StepFault.{StepFault}
use Rattle.pz_lines.specs.Naming.{stop_name}
use Rattle.pz_session.specs.Turn.{stop_of}
use Rattle.pz_session.specs.Board.{State}
use Rattle.pz_trace.specs.declared.stage.Part.{Part}
use Rattle.pz_trace.specs.declared.stage.Part.TheVariants.{Early, End, Late}
use Rattle.pz_trace.specs.Stages.{Course, StageState, stages_of}
use Rattle.pz_steps.specs.Steps.{Taken}
use Rattle.pz_stages.specs.Firings.{lines_before}
use Rattle.pz_stages.specs.Parts.{block_text, bool_text, json_list, command_names, headings_of, concatenation, lines_text, part_name, text_if}
use Rattle.pz_stages.specs.declared.detail.Detail.{Detail}

-- a stage: of which step of which input it is, what it gave, and the level after it with what heads somewhere there
unfoldable pub stage_line : ℕ → ℕ → State → StageState → List ℕ
stage_line number tick state stage =
    concatenation (codes "{"
    ∷ block_text stage.part
    ∷ (codes "\"changed\":" ++ bool_text stage.gave.changed)
    ∷ (codes ",\"commands\":" ++ json_list (command_names stage.gave.commands))
    ∷ (codes ",\"headings\":" ++ json_list (headings_of state.game.objects stage.gave.level))
    ∷ (codes ",\"input\":" ++ decimal number)
    ∷ (codes ",\"level\":" ++ quoted (text_of_level state.game state.order stage.gave.level))
    ∷ lines_text state.game.rules state.program stage.part
    ∷ (codes ",\"stage\":" ++ quoted (part_name stage.part))
    ∷ (codes ",\"tick\":" ++ decimal tick)
    ∷ codes "}\n" ∷ [])

abbrev pub has_acted : StageState → Bool
has_acted stage = stage.gave.changed || not (stage.gave.commands.0 == 0)

-- stages.quiet: a block is told if it changed something or gave a command, every other stage always
abbrev pub is_told : Part → StageState → Bool
is_told (Early number) stage = has_acted stage
is_told (Late number) stage = has_acted stage
is_told _ stage = true

abbrev pub told_line : ℕ → ℕ → State → StageState → List ℕ
told_line number tick state stage = text_if (is_told stage.part stage) (stage_line number tick state stage)

unfoldable pub stop_line : ℕ → ℕ → StepFault → List ℕ
stop_line number tick fault =
    concatenation ((codes "{\"input\":" ++ decimal number) ∷ (codes ",\"stop\":" ++ quoted (stop_name (stop_of fault))) ∷ (codes ",\"tick\":" ++ decimal tick) ∷ codes "}\n" ∷ [])

abbrev pub stop_text : ℕ → ℕ → Option StepFault → List ℕ
stop_text number tick None = []
stop_text number tick (Some fault) = stop_line number tick fault

-- what is left of a step behind this part, which has led to this level: each stage behind what is told before it, and the stop
abbrev pub left_lines : Detail → ℕ → ℕ → State → Part → Grid → List StageState → Option StepFault → List ℕ
left_lines detail number tick state last level [] stop = lines_before detail number tick state last level ++ stop_text number tick stop
left_lines detail number tick state last level (stage ∷ later) stop =
    lines_before detail number tick state last level
    ++ (told_line number tick state stage ++ left_lines detail number tick state stage.part stage.gave.level later stop)

abbrev pub course_lines : Detail → ℕ → ℕ → State → Part → Grid → Course → List ℕ
course_lines detail number tick state last level course = left_lines detail number tick state last level course.stages course.stop

-- a step: its stages (before the first there is no part, as there is none behind the end)
abbrev pub step_lines : Detail → ℕ → ℕ → Taken → List ℕ
step_lines detail number tick step =
    course_lines detail number tick step.state End step.state.level (stages_of step.state.game step.state.program step.state.level step.input)

-- the steps of an input, of which the first has this number
unfoldable pub lines_from : Detail → ℕ → ℕ → List Taken → List ℕ
lines_from detail number tick [] = []
lines_from detail number tick (step ∷ later) = step_lines detail number tick step ++ lines_from detail number (tick + 1) later

-- the steps of an input, numbered from 0
abbrev pub input_lines : Detail → ℕ → List Taken → List ℕ
input_lines detail number steps = lines_from detail number 0 steps
