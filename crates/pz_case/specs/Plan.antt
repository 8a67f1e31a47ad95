-- What is needed to play a session.
use Rattle.std.specs.Prelude.{◌≡◌, ℕ, ◌<◌, ◌≤◌, List, true, length}
use Rattle.pz_game.specs.declared.game.GameParts.{GameParts}
use Rattle.pz_game.specs.Level.{is_playable, entry_at}
use Rattle.pz_program.specs.declared.instance.Program.{Program}
use Rattle.pz_program.specs.Instance.{IsProgramOf}
use Rattle.pz_record.specs.declared.input.TheConstants.{MOST_INPUTS}
use Rattle.pz_record.specs.declared.input.Input.{Input}
use Rattle.pz_record.specs.declared.order.Order.{Order}
use Rattle.pz_case.specs.Rulebook.{RulebookState}

-- a session's game with its rules, the number of the entry of LEVELS at which it starts, its inputs, and its recorded level with
-- the order of that level's cells
pub record PlanState : Type 0 where
  pub game : GameParts
  pub program : Program
  pub first : ℕ
  pub inputs : List Input
  pub recorded : List (List (List ℕ))
  pub order : Order

-- the session of a game with its rules
abbrev pub plan_with : RulebookState → ℕ → List Input → List (List (List ℕ)) → Order → PlanState
plan_with rulebook first inputs recorded order =
    record { game = rulebook.game; program = rulebook.program; first = first; inputs = inputs; recorded = recorded; order = order }

-- a session plays its game's rules and starts at a level, and has few enough inputs for its items to be numbered
pub record IsPlan (plan : PlanState) : Type 0 where
  pub program : IsProgramOf plan.game.layers plan.program
  pub playable : is_playable (entry_at plan.game plan.first) ≡ true
  pub within : plan.first < length plan.game.levels
  pub few : length plan.inputs ≤ MOST_INPUTS
