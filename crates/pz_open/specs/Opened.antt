-- A session that is kept open: what its lines tell of it, and a plan whose inputs are those that it was given so far.
use Rattle.std.specs.Prelude.{◌≡◌, ℕ, List, [], ◌∷◌, ◌++◌, filter, length, map}
use Rattle.pz_record.specs.declared.input.Input.{Input}
use Rattle.pz_case.specs.declared.item.Item.{Item}
use Rattle.pz_case.specs.declared.item.Item.TheVariants.{Close}
use Rattle.pz_case.specs.declared.item.Stop.{Stop}
use Rattle.pz_case.specs.declared.item.Verdict.TheVariants.{Stopped}
use Rattle.pz_case.specs.Plan.{PlanState}
use Rattle.pz_lines.specs.Lines.{is_frame}
use Rattle.pz_open.specs.declared.label.Label.{Label}
use Rattle.pz_session.specs.declared.chain.Frame.{Frame}
use Rattle.pz_session.specs.Session.{items_from, frames_as_items, play_from}
use Rattle.pz_session.specs.Board.{State, board_links}
use Rattle.pz_session.specs.Case.{played_items}

-- what a session shows with these inputs in place of its own
abbrev pub items_with : PlanState → List Input → List Item
items_with plan inputs = played_items (record plan { inputs = inputs })

-- a session of a plan, with these inputs in place of its own
abbrev pub with_inputs : PlanState → List Input → PlanState
with_inputs plan inputs = record plan { inputs = inputs }

-- what is known of a session that is kept open
pub record OpenState : Type 0 where
  pub label : Label
  pub plan : PlanState

-- it, with these inputs in place of those that it was given
abbrev pub behind : OpenState → List Input → OpenState
behind session inputs = record session { plan = with_inputs session.plan inputs }

-- the frames among items
abbrev pub frames_in : List Item → List Item
frames_in items = filter is_frame items

-- what comes with one input more: the items of the session with it, behind the frames of the session without it
abbrev pub ComesWith : PlanState → List Input → Input → List Item → Type 0
ComesWith plan inputs input items = items_with plan (inputs ++ input ∷ []) ≡ frames_in (items_with plan inputs) ++ items

-- behind these inputs a session has shown so many frames and stands at a state: from there its items go on, whatever inputs come
pub record StandsAt (plan : PlanState) (inputs : List Input) (frames : ℕ) (state : State) : Type 0 where
  pub shown : frames ≡ length (frames_in (items_with plan inputs))
  pub goes_on : (later : List Input) → items_with plan (inputs ++ later) ≡ frames_in (items_with plan inputs) ++ items_from frames (play_from board_links (length inputs) later state)

-- behind these inputs it has shown so many frames and has stopped: whatever inputs come, they show nothing
pub record HasStopped (plan : PlanState) (inputs : List Input) (frames : ℕ) (stop : Stop) : Type 0 where
  pub shown : frames ≡ length (frames_in (items_with plan inputs))
  pub stays : (later : List Input) → items_with plan (inputs ++ later) ≡ frames_in (items_with plan inputs) ++ Close (Stopped stop) ∷ []

-- two states of a session have the same game and rules, order and recorded level
pub record KeepsPlan (before after : State) : Type 0 where
  pub game : after.game ≡ before.game
  pub program : after.program ≡ before.program
  pub order : after.order ≡ before.order
  pub recorded : after.recorded ≡ before.recorded

-- the items of frames that are shown after so many inputs, numbered from n
abbrev pub frame_items : ℕ → ℕ → List Frame → List Item
frame_items n at frames = frames_as_items n (map (λ frame. (at, frame)) frames)
