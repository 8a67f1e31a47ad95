-- The steps that a session takes at an input: the step of a press or of a tick, and those of the ticks that follow it. An undo and a
-- restart take none themselves, nor does an input after play is over. At its start a session takes the steps of the ticks that
-- `run_rules_on_level_start` asks for.
use Rattle.std.specs.Prelude.{ℕ, zero, suc, List, [], ◌∷◌, take, drop, Option, Some, None, Result, Ok, Err, if◌then◌else◌}
use Rattle.pz_game.specs.declared.direction.Dir.{Dir}
use Rattle.pz_record.specs.declared.input.Input.{Input}
use Rattle.pz_record.specs.declared.input.Input.TheVariants.{Press, Undo, Restart, Tick}
use Rattle.pz_case.specs.declared.item.Stop.{Stop}
use Rattle.pz_case.specs.Plan.{PlanState}
use Rattle.pz_session.specs.declared.chain.TheConstants.{MOST_TICKS}
use Rattle.pz_session.specs.Chain.{Chain, Link, follow, ticks}
use Rattle.pz_session.specs.Session.{ticks_after}
use Rattle.pz_session.specs.Board.{State, first_link, with_past, start_link, tick_link}
use Rattle.pz_session.specs.Case.{state_of}

-- the chain of an input: its first link, and the ticks that follow it
abbrev pub chain_of : Input → State → Chain State
chain_of input state = follow (ticks tick_link (ticks_after input)) (first_link input state)

-- the chain of a session's start
abbrev pub start_chain : State → Chain State
start_chain state = follow (ticks tick_link MOST_TICKS) (Ok (start_link state))

abbrev pub settled_in : Result State Stop → Option State
settled_in (Err stop) = None
settled_in (Ok state) = Some (with_past state)

-- where a session stands after a chain, unless it stops there
abbrev pub settled_after : Chain State → Option State
settled_after chain = settled_in chain.after

abbrev pub and_then : {A B : Type 0} → (A → Option B) → Option A → Option B
and_then f None = None
and_then f (Some a) = f a

-- where a session stands after these inputs
abbrev pub after_inputs : List Input → State → Option State
after_inputs [] state = Some state
after_inputs (input ∷ inputs) state = and_then (after_inputs inputs) (settled_after (chain_of input state))

-- where a session stands once it has started, and these of its inputs were played, unless it stopped before
abbrev pub stands_behind : List Input → State → Option State
stands_behind inputs state = and_then (after_inputs inputs) (settled_after (start_chain state))

-- where it stands once so many of its inputs were played
unfoldable pub standing_after : PlanState → ℕ → Option State
standing_after plan count = stands_behind (take count plan.inputs) (state_of plan)

-- a step: where the session stands, and the direction of a press, or none for a tick
pub record Taken : Type 0 where
  pub state : State
  pub input : Option Dir

abbrev pub taken_step : State → Option Dir → Taken
taken_step state input = record { state = state; input = input }

-- the steps that follow a link, if it goes on
abbrev pub following : (State → List Taken) → Result (Link State) Stop → List Taken
following later (Err stop) = []
following later (Ok link) = if link.goes_on then later link.after else []

-- the steps of ticks from a state that needs one; at most n may run
abbrev pub tick_steps : ℕ → State → List Taken
tick_steps zero state = []
tick_steps (suc n) state = taken_step state None ∷ following (tick_steps n) (tick_link state)

-- the steps behind the first link of an input
abbrev pub later_steps : Input → State → List Taken
later_steps input state = following (tick_steps (ticks_after input)) (first_link input state)

-- the steps of an input while a level is played
abbrev pub steps_in_play : Input → State → List Taken
steps_in_play (Press dir) state = taken_step state (Some dir) ∷ later_steps (Press dir) state
steps_in_play Undo state = later_steps Undo state
steps_in_play Restart state = later_steps Restart state
steps_in_play Tick state = tick_steps MOST_TICKS state

-- the steps of a session's start
abbrev pub start_steps : State → List Taken
start_steps state = following (tick_steps MOST_TICKS) (Ok (start_link state))

-- the steps of the first of these inputs; after play is over there are none
abbrev pub first_steps : List Input → State → List Taken
first_steps [] state = []
first_steps (input ∷ inputs) state = if state.is_over then [] else steps_in_play input state

abbrev pub steps_from : List Input → Option State → List Taken
steps_from inputs None = []
steps_from inputs (Some state) = first_steps inputs state

-- stages.steps: the steps that a session takes at an input, which are numbered from 1; number 0 is its start. There are none if
-- the session stopped before, or has fewer inputs
unfoldable pub steps_at : PlanState → ℕ → List Taken
steps_at plan zero = start_steps (state_of plan)
steps_at plan (suc count) = steps_from (drop count plan.inputs) (standing_after plan count)
