-- The links of a session: a press, a tick, an undo, a restart, and the effect of a step's commands.
use Rattle.std.specs.Prelude.{ℕ, ◌+◌, ◌<◌, Bool, true, false, ◌&&◌, ◌||◌, List, [], ◌∷◌, length, Option, Some, None, Result, Ok, Err, All, IfSome, if◌then◌else◌}
use Rattle.pz_game.specs.declared.game.GameParts.{GameParts}
use Rattle.pz_game.specs.declared.direction.Dir.{Dir}
use Rattle.pz_program.specs.declared.commands.Commands.{Commands}
use Rattle.pz_program.specs.declared.instance.Program.{Program}
use Rattle.pz_program.specs.Commands as command
use Rattle.pz_program.specs.Instance.{IsProgramOf}
use Rattle.pz_sheet.specs.Grid.{Grid, IsOfGame}
use Rattle.pz_bare.specs.Loading.{level_of_entry}
use Rattle.pz_sheet.specs.Sameness.{same_grid}
use Rattle.pz_turn.specs.declared.outcome.StepFault.{StepFault}
use Rattle.pz_turn.specs.Outcome.{Outcome}
use Rattle.pz_turn.specs.Step.{step_of}
use Rattle.pz_turn.specs.Win.{has_won}
use Rattle.pz_record.specs.declared.input.Input.{Input}
use Rattle.pz_record.specs.declared.input.Input.TheVariants as input
use Rattle.pz_record.specs.declared.order.Order.{Order}
use Rattle.pz_level_text.specs.Equality.{equals_recorded}
use Rattle.pz_level_text.specs.LevelText.{text_of_level}
use Rattle.pz_case.specs.declared.item.FrameKind.{FrameKind}
use Rattle.pz_case.specs.declared.item.FrameKind.TheVariants.{Start, Move, Tick, Undo, Restart, Load, Over}
use Rattle.pz_session.specs.declared.chain.Frame.{Frame}
use Rattle.pz_case.specs.declared.item.Stop.{Stop}
use Rattle.pz_case.specs.declared.item.Verdict.{Verdict}
use Rattle.pz_case.specs.declared.item.Verdict.TheVariants.{Passed, Differs}
use Rattle.pz_case.specs.FirstLevel.{level_from}
use Rattle.pz_session.specs.Chain.{Link}
use Rattle.pz_session.specs.Session.{Links}
use Rattle.pz_session.specs.Turn.{stop_of, is_idle}

-- a session between two links
pub record State : Type 0 where
  pub game : GameParts
  pub program : Program
  pub order : Order
  pub recorded : List (List (List ℕ))
  -- the number of the entry of LEVELS that is played
  pub entry : ℕ
  pub level : Grid
  -- the level that a restart gives
  pub target : Grid
  -- the levels that an undo takes back, the newest first
  pub past : List Grid
  -- the level before an input, until its chain is over
  pub before : Option Grid
  -- whether the last level was won
  pub is_over : Bool

-- all levels of a session belong to its game, and so do its rules
pub record IsOneGame (state : State) : Type 0 where
  pub program : IsProgramOf state.game.layers state.program
  pub entry : state.entry < length state.game.levels
  pub level : IsOfGame state.game state.level
  pub target : IsOfGame state.game state.target
  pub past : All (IsOfGame state.game) state.past
  pub before : IfSome state.before (IsOfGame state.game)

-- the session that has just loaded the level of an entry: it is the target too, and the past is empty
abbrev pub loaded_at : GameParts → Program → Order → List (List (List ℕ)) → ℕ → State
loaded_at game program order recorded entry = record {
  game = game;
  program = program;
  order = order;
  recorded = recorded;
  entry = entry;
  level = level_of_entry game entry;
  target = level_of_entry game entry;
  past = [];
  before = None;
  is_over = false;
}

abbrev pub at_level : Grid → State → State
at_level level state = record state { level = level }

unfoldable pub frame_of : State → FrameKind → Frame
frame_of state kind = record { kind = kind; level_text = text_of_level state.game state.order state.level }

-- a link that shows the level that it leads to; one more tick may follow it
abbrev pub showing : FrameKind → State → Bool → Link State
showing kind state goes_on = record { shown = frame_of state kind ∷ []; after = state; goes_on = goes_on }

-- a link that shows the level that it leads to, and ends the chain
abbrev pub showing_end : FrameKind → State → Link State
showing_end kind state = showing kind state false

-- a link that shows nothing and takes no effect
abbrev pub idle : State → Link State
idle state = record { shown = []; after = state; goes_on = false }

-- play.start-ticks: in a game with `run_rules_on_level_start` a tick follows the start, each load and each restart
abbrev pub ticks_at_start : State → Bool
ticks_at_start state = state.game.options.run_rules_on_level_start

-- play.start: the start shows the level
unfoldable pub start_link : State → Link State
start_link state = showing Start state (ticks_at_start state)

-- play.restart: the level becomes the target, and is shown
unfoldable pub restart_link : State → Link State
restart_link state = showing Restart (at_level state.target state) (ticks_at_start state)

-- a load: the frame of the step that wins, then a frame of the level that is loaded
abbrev pub loading : Frame → State → Link State
loading won state = record { shown = won ∷ frame_of state Load ∷ []; after = state; goes_on = ticks_at_start state }

-- after the last level play is over, which shows no frame of its own
abbrev pub ending : Frame → State → Link State
ending won state = record { shown = won ∷ []; after = record state { is_over = true }; goes_on = false }

-- play.win: a win: the next level is loaded, or play is over
unfoldable pub won_link : Frame → State → Option ℕ → Link State
won_link won state None = ending won state
won_link won state (Some next) = loading won (loaded_at state.game state.program state.order state.recorded next)

-- play.checkpoint, play.again: no win: a checkpoint makes the level the target, and `again` asks for one more tick if the step
-- changed the level
unfoldable pub kept_link : FrameKind → Commands → Bool → State → Link State
kept_link kind commands changed state = record {
  shown = frame_of state kind ∷ [];
  after = record state { target = if command.has commands command.checkpoint then state.level else state.target };
  goes_on = command.has commands command.again && changed;
}

-- play.again: a step that gives neither `cancel` nor `restart`: it wins by `win` or by the win lines, or play goes on
unfoldable pub reached_link : FrameKind → Commands → Bool → State → Link State
reached_link kind commands changed state =
    if command.has commands command.win || has_won state.game state.level
    then won_link (frame_of state kind) state (level_from state.game (state.entry + 1))
    else kept_link kind commands changed state

-- play.commands, play.restart-command: the effect of a step: cancel, restart and win, in this order, each exclude all after it.
-- A cancelled step leaves the level as it was. A restart is shown in place of the step.
unfoldable pub effect : FrameKind → State → Outcome Grid → Link State
effect kind state end =
    if command.has end.commands command.cancel then showing_end kind state
    else (if command.has end.commands command.restart then restart_link state
    else reached_link kind end.commands end.changed (at_level end.level state))

-- the level is kept for the past until the chain is over
abbrev pub keeping : State → State
keeping state = record state { before = Some state.level }

abbrev pub pressed_to : State → Result (Outcome Grid) StepFault → Result (Link State) Stop
pressed_to state (Err fault) = Err (stop_of fault)
pressed_to state (Ok end) = Ok (effect Move (keeping state) end)

-- play.press: a press is a step with its direction
unfoldable pub press_link : Dir → State → Result (Link State) Stop
press_link dir state = pressed_to state (step_of state.game state.program state.level (Some dir))

-- an idle tick shows nothing, takes no effect and ends the chain
abbrev pub ticked_to : State → Result (Outcome Grid) StepFault → Result (Link State) Stop
ticked_to state (Err fault) = Err (stop_of fault)
ticked_to state (Ok end) = Ok (if is_idle end then idle state else effect Tick state end)

-- a tick is a step without a direction
unfoldable pub tick_link : State → Result (Link State) Stop
tick_link state = ticked_to state (step_of state.game state.program state.level None)

-- play.undo: the last level of the past, if there is one, is taken from it and becomes the level; the target stays
abbrev pub undo_to : State → List Grid → State
undo_to state [] = state
undo_to state (last ∷ past) = record state { level = last; past = past }

-- play.undo: no tick follows an undo
unfoldable pub undo_link : State → Link State
undo_link state = showing_end Undo (undo_to state state.past)

-- the first link of an input while a level is played
abbrev pub input_link : Input → State → Result (Link State) Stop
input_link (input.Press dir) state = press_link dir state
input_link input.Undo state = Ok (undo_link state)
input_link input.Restart state = Ok (restart_link (keeping state))
input_link input.Tick state = tick_link state

-- play.over: the first link of an input; after play is over it shows the won level
unfoldable pub first_link : Input → State → Result (Link State) Stop
first_link input state = if state.is_over then Ok (showing_end Over state) else input_link input state

abbrev pub past_with : State → Option Grid → List Grid
past_with state None = state.past
past_with state (Some before) = if same_grid before state.level then state.past else before ∷ state.past

-- play.past: once the chain of a press or a restart is over, the level before it goes on the past if the level differs
unfoldable pub with_past : State → State
with_past state = record state { past = past_with state state.before; before = None }

-- play.close: a session whose inputs were all played passes if its level is the recorded one
abbrev pub verdict_of : State → Verdict
verdict_of state = if equals_recorded state.game state.order state.level state.recorded then Passed else Differs

abbrev pub board_links : Links State
board_links = record { begun = first_link; ticked = tick_link; settled = with_past; verdict = verdict_of }
