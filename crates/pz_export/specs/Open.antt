-- What a host is answered that keeps sessions open.
use Rattle.std.specs.Prelude.{◌≡◌, ◌≢◌, ℕ, List, ◌++◌, ◌∷◌, [], length, map, nat_lt, Option, true, Err}
use Rattle.std.specs.List.{list_any}
use Rattle.pz_entries.specs.declared.fault.FileFault.{FileFault}
use Rattle.pz_entries.specs.declared.fault.FileFault.TheVariants as fault
use Rattle.pz_engine.specs.Sessions.{sessions_in}
use Rattle.pz_record.specs.declared.input.Input.{Input}
use Rattle.pz_record.specs.declared.order.Order.{Order}
use Rattle.pz_open.specs.Opened.{OpenState}
use Rattle.pz_open.specs.Sessions.{CopiesNot, Gives, GivesNot, GoesBack, GoesNot, IsDoneAt, IsOpened, open_at}
use Rattle.pz_open.specs.declared.sessions.SessionFault.{SessionFault}
use Rattle.pz_open.specs.declared.sessions.SessionFault.TheVariants as session
use Rattle.pz_export.specs.Inputs.{number_of}
use Rattle.pz_export.specs.Lines.{IsToldWhy, begun_with}
use Rattle.pz_export.specs.declared.open.CallFault.{CallFault}
use Rattle.pz_export.specs.declared.open.CallFault.TheVariants.{NoInput, OfSession}
use Rattle.pz_export.specs.declared.outcome.Outcome.{Outcome}
use Rattle.pz_export.specs.declared.outcome.TheConstants.{PASSED, REFUSED}

-- the faults of calls are numbered behind those of a file
abbrev pub kind_of : CallFault → ℕ
kind_of (OfSession session.Memory) = 1
kind_of (OfSession session.NotOpen) = 6
kind_of (OfSession session.TooMany) = 7
kind_of (OfSession session.TooFew) = 8
kind_of NoInput = 9

-- a call was carried out for the session of this number
pub record SaysDone (number : ℕ) (outcome : Outcome) : Type 0 where
  pub status : outcome.status ≡ PASSED
  pub fault : outcome.fault ≡ 0
  pub entry : outcome.entry ≡ number

-- a call was not carried out, and why
pub record SaysNot (cause : CallFault) (outcome : Outcome) : Type 0 where
  pub status : outcome.status ≡ REFUSED
  pub fault : outcome.fault ≡ kind_of cause
  pub entry : outcome.entry ≡ 0

-- a host is told lines of a session: how many bytes they have, and in the room they themselves if they fit
pub record AreTold (number : ℕ) (lines room_before room : List ℕ) (outcome : Outcome) (count : ℕ) : Type 0 where
  pub says : SaysDone number outcome
  pub counted : count ≡ length lines
  pub held : room ≡ begun_with lines room_before

-- a host is told why a call was not carried out; the room is as it was
pub record AreNotTold (cause : CallFault) (room_before room : List ℕ) (outcome : Outcome) (count : ℕ) : Type 0 where
  pub says : SaysNot cause outcome
  pub counted : count ≡ 0
  pub kept : room ≡ room_before

-- the session of a number in a file was opened, behind all others
pub record IsOpenedFor (order : Order) (file : List ℕ) (number : ℕ) (before after : List (Option OpenState)) (room_before room : List ℕ) (outcome : Outcome) (count : ℕ) : Type 0 where
  pub lines : List ℕ
  pub opened : IsOpened order file number before after lines
  pub told : AreTold (length before) lines room_before room outcome count

-- none was opened, by the file's fault or for want of memory
pub record IsNotOpened (file : List ℕ) (before after : List (Option OpenState)) (room_before room : List ℕ) (outcome : Outcome) (count : ℕ) : Type 0 where
  pub cause : FileFault
  pub why : cause ≢ fault.Memory → sessions_in file ≡ Err cause
  pub told : IsToldWhy cause room_before room outcome count
  pub same : after ≡ before

-- the session of a number was given inputs, each by its byte
pub record GivesBytes (number : ℕ) (bytes : List ℕ) (before after : List (Option OpenState)) (lines : List ℕ) : Type 0 where
  pub inputs : List Input
  pub read : map number_of inputs ≡ bytes
  pub given : IsDoneAt number (λ old new. Gives inputs old new lines) before after

pub record IsGiven (number : ℕ) (bytes : List ℕ) (before after : List (Option OpenState)) (room_before room : List ℕ) (outcome : Outcome) (count : ℕ) : Type 0 where
  pub lines : List ℕ
  pub gives : GivesBytes number bytes before after lines
  pub told : AreTold number lines room_before room outcome count

-- why it isn't given them
abbrev pub IsNotGivenFor : CallFault → Option OpenState → List ℕ → Type 0
IsNotGivenFor (OfSession cause) session bytes = GivesNot cause session (length bytes)
IsNotGivenFor NoInput session bytes = list_any (nat_lt 7) bytes ≡ true

pub record IsNotGiven (number : ℕ) (bytes : List ℕ) (before after : List (Option OpenState)) (room_before room : List ℕ) (outcome : Outcome) (count : ℕ) : Type 0 where
  pub cause : CallFault
  pub why : IsNotGivenFor cause (open_at before number) bytes
  pub told : AreNotTold cause room_before room outcome count
  pub same : after ≡ before

-- the session of a number has gone back to its first inputs
pub record IsBack (number inputs : ℕ) (before after : List (Option OpenState)) (room_before room : List ℕ) (outcome : Outcome) (count : ℕ) : Type 0 where
  pub lines : List ℕ
  pub gone : IsDoneAt number (λ old new. GoesBack inputs old new lines) before after
  pub told : AreTold number lines room_before room outcome count

pub record IsNotBack (number inputs : ℕ) (before after : List (Option OpenState)) (room_before room : List ℕ) (outcome : Outcome) (count : ℕ) : Type 0 where
  pub cause : SessionFault
  pub why : GoesNot cause (open_at before number) inputs
  pub told : AreNotTold (OfSession cause) room_before room outcome count
  pub same : after ≡ before

-- a copy of the session of a number was opened, behind all others
pub record IsCopied (number : ℕ) (before after : List (Option OpenState)) (outcome : Outcome) : Type 0 where
  pub behind_all : after ≡ before ++ open_at before number ∷ []
  pub says : SaysDone (length before) outcome

pub record IsNotCopied (number : ℕ) (before after : List (Option OpenState)) (outcome : Outcome) : Type 0 where
  pub cause : SessionFault
  pub why : CopiesNot cause (open_at before number)
  pub says : SaysNot (OfSession cause) outcome
  pub same : after ≡ before
