-- The law of the stages of a step.
use Rattle.std.specs.Prelude.{◌≡◌, Option}
use Rattle.pz_game.specs.declared.direction.Dir.{Dir}
use Rattle.pz_game.specs.declared.game.GameParts.{GameParts}
use Rattle.pz_program.specs.declared.instance.Program.{Program}
use Rattle.pz_sheet.specs.Grid.{Grid}
use Rattle.pz_turn.specs.Step.{step_of}
use Rattle.pz_trace.specs.Stages.{stages_of, end_in}

-- the last stage is the step: its level, its commands, and whether it changed something; and the stages stop exactly if the step
-- does
abbrev pub StagesEndTheStep : Type 0
StagesEndTheStep =
    (game : GameParts) (program : Program) (grid : Grid) (input : Option Dir) →
    end_in grid (stages_of game program grid input) ≡ step_of game program grid input
