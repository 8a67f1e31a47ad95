-- The items of a session follow from the stages of its steps.
use Rattle.std.proofs.Common.{◌≡◌, Option, Some, None, Ok, refl, ap, if◌then◌else◌}
use Rattle.pz_game.specs.declared.direction.Dir.{Dir}
use Rattle.pz_record.specs.declared.input.Input.{Input}
use Rattle.pz_record.specs.declared.input.Input.TheVariants.{Press, Undo, Restart, Tick}
use Rattle.pz_case.specs.declared.item.FrameKind.TheVariants.{Over}
use Rattle.pz_case.specs.Plan.{PlanState}
use Rattle.pz_session.specs.declared.chain.TheConstants.{MOST_TICKS}
use Rattle.pz_session.specs.Chain.{follow, ticks}
use Rattle.pz_session.specs.Session.{going_on}
unfoldable use Rattle.pz_session.specs.Session.{items_from, play_from}
use Rattle.pz_session.specs.Board.{State, board_links, input_link, pressed_to, showing_end, ticked_to, verdict_of}
unfoldable use Rattle.pz_session.specs.Board.{first_link, press_link, with_past, start_link, tick_link}
use Rattle.pz_session.specs.Case.{state_of}
unfoldable use Rattle.pz_session.specs.Case.{played_items}
unfoldable use Rattle.pz_turn.specs.Step.{step_of}
use Rattle.pz_trace.proofs.Ending.{stages_end}
use Rattle.pz_steps.specs.Laws.{ended_by_stages, staged_link, staged_input, staged_items, staged_links, staged_tick}

ends_so : (state : State) (input : Option Dir) → ended_by_stages state input ≡ step_of state.game state.program state.level input
ends_so state input = stages_end state.game state.program state.level input

tick_same : (state : State) → staged_tick state ≡ tick_link state
unfolding tick_link
tick_same state = ap (ticked_to state) (ends_so state None)

input_same : (input : Input) (state : State) → staged_input input state ≡ input_link input state
unfolding press_link
input_same (Press dir) state = ap (pressed_to state) (ends_so state (Some dir))
input_same Undo state = refl
input_same Restart state = refl
input_same Tick state = tick_same state

staged_same : (input : Input) (state : State) → staged_link input state ≡ first_link input state
unfolding first_link
staged_same input state = λ i. if state.is_over then Ok (showing_end Over state) else input_same input state i

links_same : staged_links ≡ board_links
links_same = λ i. record { begun = λ input state. staged_same input state i; ticked = λ state. tick_same state i; settled = with_past; verdict = verdict_of }

pub items_same : (plan : PlanState) → staged_items plan ≡ played_items plan
unfolding played_items
items_same plan =
    λ i. items_from 0 (going_on (links_same i) 0 (play_from (links_same i) 0 plan.inputs) (follow (ticks (links_same i).ticked MOST_TICKS) (Ok (start_link (state_of plan)))))
