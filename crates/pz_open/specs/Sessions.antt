-- The sessions that a host keeps open: a list in which each has the place of its number; where one was closed, or none began, the place is empty.
use Rattle.std.specs.Prelude.{◌≡◌, ℕ, ◌+◌, ◌<◌, List, [], ◌∷◌, ◌++◌, length, slice_get, slice_set, take, MatchOption, Option, Some, None, Result, Ok, Err}
use Rattle.std.specs.Bool.{⊤}
use Rattle.pz_record.specs.declared.input.TheConstants.{MOST_INPUTS}
use Rattle.pz_entries.specs.declared.entry.Entry.{Entry}
use Rattle.pz_record.specs.declared.input.Input.{Input}
use Rattle.pz_record.specs.declared.order.Order.{Order}
use Rattle.pz_case.specs.declared.case.Case.{Case}
use Rattle.pz_case.specs.declared.item.Item.TheVariants.{Close}
use Rattle.pz_case.specs.declared.item.Refusal.{Refusal}
use Rattle.pz_case.specs.declared.item.Verdict.TheVariants.{Refused}
use Rattle.pz_case.specs.Plan.{PlanState}
use Rattle.pz_job.specs.Job.{job_of}
use Rattle.pz_engine.specs.Sessions.{sessions_in}
use Rattle.pz_lines.specs.Lines.{item_line}
use Rattle.pz_open.specs.Opened.{OpenState, behind, with_inputs}
use Rattle.pz_open.specs.Kept.{TellsNewest}
use Rattle.pz_open.specs.declared.sessions.SessionFault.{SessionFault}
use Rattle.pz_open.specs.declared.sessions.SessionFault.TheVariants as fault

-- the open session of a place, if there is one
abbrev pub open_in : Option (Option OpenState) → Option OpenState
open_in None = None
open_in (Some place) = place

-- the open session of a number
abbrev pub open_at : List (Option OpenState) → ℕ → Option OpenState
open_at sessions number = open_in (slice_get sessions number)

-- a session of a plan opens without inputs
pub record Opens (number : ℕ) (name : List ℕ) (plan : PlanState) (session : Option OpenState) (lines : List ℕ) : Type 0 where
  pub opened : OpenState
  pub is : opened ≡ record { label = record { number = number; name = name }; plan = with_inputs plan [] }
  pub there : session ≡ Some opened
  pub told : TellsNewest opened lines

-- none opens of what is refused, whose close is told
pub record OpensNone (close : List ℕ) (session : Option OpenState) (lines : List ℕ) : Type 0 where
  pub none : session ≡ None
  pub told : lines ≡ close

abbrev pub OpensPlan : ℕ → List ℕ → Result PlanState Refusal → Option OpenState → List ℕ → Type 0
OpensPlan number name (Err refusal) session lines = OpensNone (item_line number name 0 (Close (Refused refusal))) session lines
OpensPlan number name (Ok plan) session lines = Opens number name plan session lines

-- nor of a case that isn't there, of which nothing is told
abbrev pub OpensCase : ℕ → Option Case → Option OpenState → List ℕ → Type 0
OpensCase number None session lines = OpensNone [] session lines
OpensCase number (Some case) session lines = OpensPlan number case.name case.plan session lines

-- the session of a number in a file is opened behind all others
pub record IsOpened (order : Order) (bytes : List ℕ) (number : ℕ) (before after : List (Option OpenState)) (lines : List ℕ) : Type 0 where
  pub entries : List Entry
  pub read : sessions_in bytes ≡ Ok entries
  pub session : Option OpenState
  pub opened : OpensCase number (slice_get (job_of order entries) number) session lines
  pub behind_all : after ≡ before ++ session ∷ []

-- the open session of a place was given inputs
pub record Gives (inputs : List Input) (before after : Option OpenState) (lines : List ℕ) : Type 0 where
  pub session : OpenState
  pub there : before ≡ Some session
  pub given : after ≡ Some (behind session (session.plan.inputs ++ inputs))
  pub told : TellsNewest (behind session (session.plan.inputs ++ inputs)) lines

-- it has gone back to its first inputs
pub record GoesBack (count : ℕ) (before after : Option OpenState) (lines : List ℕ) : Type 0 where
  pub session : OpenState
  pub there : before ≡ Some session
  pub gone : after ≡ Some (behind session (take count session.plan.inputs))
  pub told : TellsNewest (behind session (take count session.plan.inputs)) lines

-- this was done in the place of a number, and all others are as they were
pub record IsDoneAt (number : ℕ) (act : Option OpenState → Option OpenState → Type 0) (before after : List (Option OpenState)) : Type 0 where
  pub old : Option OpenState
  pub new : Option OpenState
  pub there : slice_get before number ≡ Some old
  pub done : act old new
  pub only : after ≡ slice_set before number new

-- why a session isn't given so many inputs: none is open, or it would have too many
abbrev pub GivesNot : SessionFault → Option OpenState → ℕ → Type 0
GivesNot fault.NotOpen session count = session ≡ None
GivesNot fault.TooMany session count = MatchOption session ⊥ (λ its. MOST_INPUTS < length its.plan.inputs + count)
GivesNot fault.TooFew session count = ⊥
GivesNot fault.Memory session count = ⊤

-- why it doesn't go back to so many inputs: none is open, or it has fewer
abbrev pub GoesNot : SessionFault → Option OpenState → ℕ → Type 0
GoesNot fault.NotOpen session count = session ≡ None
GoesNot fault.TooMany session count = ⊥
GoesNot fault.TooFew session count = MatchOption session ⊥ (λ its. length its.plan.inputs < count)
GoesNot fault.Memory session count = ⊤

-- why it isn't copied: none is open
abbrev pub CopiesNot : SessionFault → Option OpenState → Type 0
CopiesNot fault.NotOpen session = session ≡ None
CopiesNot fault.TooMany session = ⊥
CopiesNot fault.TooFew session = ⊥
CopiesNot fault.Memory session = ⊤
