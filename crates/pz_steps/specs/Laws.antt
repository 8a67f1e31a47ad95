-- Laws of the steps of a session: where a session stands is where its items go on, and its frames follow from the stages of its steps.
use Rattle.std.specs.Prelude.{◌≡◌, ℕ, List, ◌++◌, drop, length, min, Option, Some, None, Result, Ok, if◌then◌else◌}
use Rattle.pz_game.specs.declared.direction.Dir.{Dir}
use Rattle.pz_record.specs.declared.input.Input.{Input}
use Rattle.pz_record.specs.declared.input.Input.TheVariants as input
use Rattle.pz_case.specs.declared.item.Item.{Item}
use Rattle.pz_case.specs.declared.item.Stop.{Stop}
use Rattle.pz_case.specs.Plan.{PlanState}
use Rattle.pz_turn.specs.declared.outcome.StepFault.{StepFault}
use Rattle.pz_turn.specs.Outcome.{Outcome}
use Rattle.pz_sheet.specs.Grid.{Grid}
use Rattle.pz_session.specs.declared.chain.Frame.{Frame}
use Rattle.pz_session.specs.declared.chain.TheConstants.{MOST_TICKS}
use Rattle.pz_case.specs.declared.item.FrameKind.TheVariants.{Over}
use Rattle.pz_session.specs.Chain.{Link, follow, ticks}
use Rattle.pz_session.specs.Session.{Links, play_from, frames_as_items, items_from, going_on}
use Rattle.pz_session.specs.Board.{State, board_links, keeping, pressed_to, restart_link, with_past, showing_end, start_link, ticked_to, undo_link, verdict_of}
use Rattle.pz_session.specs.Case.{played_items, state_of}
use Rattle.pz_trace.specs.Stages.{stages_of, end_in}
use Rattle.pz_steps.specs.Steps.{standing_after}

-- from where a session stands after so many inputs its items go on, up to its close
abbrev pub ItemsGoOn : Type 0
ItemsGoOn =
    (plan : PlanState) (count : ℕ) (state : State) → standing_after plan count ≡ Some state →
    (frames : List (ℕ × Frame)) × (played_items plan ≡ frames_as_items 0 frames ++ items_from (length frames) (play_from board_links (min count (length plan.inputs)) (drop count plan.inputs) state))

-- how a step of a session ends, by its stages
abbrev pub ended_by_stages : State → Option Dir → Result (Outcome Grid) StepFault
ended_by_stages state input = end_in state.level (stages_of state.game state.program state.level input)

abbrev pub staged_tick : State → Result (Link State) Stop
staged_tick state = ticked_to state (ended_by_stages state None)

abbrev pub staged_input : Input → State → Result (Link State) Stop
staged_input (input.Press dir) state = pressed_to state (ended_by_stages state (Some dir))
staged_input input.Undo state = Ok (undo_link state)
staged_input input.Restart state = Ok (restart_link (keeping state))
staged_input input.Tick state = staged_tick state

-- the first link of an input, by the stages of its step
abbrev pub staged_link : Input → State → Result (Link State) Stop
staged_link input state = if state.is_over then Ok (showing_end Over state) else staged_input input state

-- the links of a session, by the stages of its steps
abbrev pub staged_links : Links State
staged_links = record { begun = staged_link; ticked = staged_tick; settled = with_past; verdict = verdict_of }

-- the items of a session, by the stages of its steps
abbrev pub staged_items : PlanState → List Item
staged_items plan = items_from 0 (going_on staged_links 0 (play_from staged_links 0 plan.inputs) (follow (ticks staged_links.ticked MOST_TICKS) (Ok (start_link (state_of plan)))))

-- the stages of a session's steps end in its items
abbrev pub StagesEndInItems : Type 0
StagesEndInItems = (plan : PlanState) → staged_items plan ≡ played_items plan
