-- Where a session that is kept open stands.
use Rattle.std.specs.Prelude.{◌≡◌, ℕ, List, [], ◌∷◌, ◌++◌, Option, Some, None}
use Rattle.std.specs.Bool.{⊤}
use Rattle.pz_record.specs.declared.input.Input.{Input}
use Rattle.pz_case.specs.Plan.{PlanState}
use Rattle.pz_case.specs.declared.item.Item.TheVariants.{Close}
use Rattle.pz_case.specs.declared.item.Stop.{Stop}
use Rattle.pz_case.specs.declared.item.Verdict.TheVariants as verdict
use Rattle.pz_session.specs.Board.{State, IsOneGame, with_past, verdict_of}
use Rattle.pz_session.specs.Standing.{Stood, state_at, stood_in}
use Rattle.pz_open.specs.declared.telling.Told.{Told}
use Rattle.pz_open.specs.declared.place.Moved.{Moved}
use Rattle.pz_open.specs.declared.place.Place.{Place}
use Rattle.pz_open.specs.declared.place.Place.TheVariants.{At, Stopped}
use Rattle.pz_open.specs.Opened.{HasStopped, StandsAt}

-- the state of a session that stands there
abbrev pub state_of_stood : PlanState → Stood → State
state_of_stood plan stood = state_at plan.game plan.program plan.order plan.recorded stood

-- a session can go on from a place
abbrev pub CanGoOn : PlanState → Place → Type 0
CanGoOn plan (At stood frames) = IsOneGame (state_of_stood plan stood)
CanGoOn plan (Stopped stop frames) = ⊤

-- a session of a plan stands there, between two inputs
abbrev pub IsStood : PlanState → State → Type 0
IsStood plan state = state_of_stood plan (stood_in state) ≡ state

-- how many frames it has shown by then
abbrev pub frames_at : Place → ℕ
frames_at (At stood frames) = frames
frames_at (Stopped stop frames) = frames

-- it is where the session is behind these inputs
abbrev pub IsPlace : PlanState → List Input → Place → Type 0
IsPlace plan inputs (At stood frames) = StandsAt plan inputs frames (state_of_stood plan stood)
IsPlace plan inputs (Stopped stop frames) = HasStopped plan inputs frames stop

-- these inputs have led a session to a state, or it has stopped by then
abbrev pub IsLed : PlanState → List Input → ℕ → Option Stop → State → Type 0
IsLed plan inputs frames None state = StandsAt plan inputs frames state
IsLed plan inputs frames (Some stop) state = HasStopped plan inputs frames stop

-- a chain has led from what was told to a place: where it settles, or where it stopped; the close comes last
pub record IsSettled (told : Told) (state : State) (moved : Moved) : Type 0 where
  pub place : moved.place ≡ At (stood_in (with_past state)) told.frames
  pub items : moved.items.items ≡ told.items.items ++ Close (verdict_of (with_past state)) ∷ []
  pub game : IsOneGame (with_past state)

pub record IsStopped (told : Told) (stop : Stop) (moved : Moved) : Type 0 where
  pub place : moved.place ≡ Stopped stop told.frames
  pub items : moved.items.items ≡ told.items.items ++ Close (verdict.Stopped stop) ∷ []

abbrev pub IsEnded : Told → Option Stop → State → Moved → Type 0
IsEnded told None state moved = IsSettled told state moved
IsEnded told (Some stop) state moved = IsStopped told stop moved
