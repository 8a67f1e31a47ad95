-- What a gate lets pass: `passes` and `stops` say of a session and an item of it, counted from 0, that the gate may answer so.
use Rattle.std.specs.Prelude.{◌≡◌, ◌≢◌, ◌<◌, ℕ, List, [], ◌∷◌, ◌++◌, All, length, take, IfSome}
use Rattle.pz_crew.specs.Pieces.{pieces_at}
use Rattle.pz_crew.specs.Sent.{messages_of, messages_for}
use Rattle.pz_crew.specs.declared.lane.End.{End}
use Rattle.pz_crew.specs.declared.lane.End.TheVariants.{Finished}
use Rattle.pz_crew.specs.declared.lane.Message.{Message}
use Rattle.pz_crew.specs.declared.lane.Message.TheVariants.{Last}
use Rattle.pz_crew.specs.declared.work.Worked.{Worked}

-- so many first items of a session may pass
abbrev pub MayPassUpTo : (ℕ → ℕ → Type 0) → ℕ → ℕ → Type 0
MayPassUpTo passes session count = (item : ℕ) → item < count → passes session item

-- every item of the session of this number may pass
abbrev pub MayPassIn : {T : Type 0} → (ℕ → ℕ → Type 0) → List (List T) → ℕ → Type 0
MayPassIn passes sessions session = MayPassUpTo passes session (length (pieces_at sessions session))

-- every item of the sessions of these numbers may pass
abbrev pub MayPassFor : {T : Type 0} → (ℕ → ℕ → Type 0) → List (List T) → List ℕ → Type 0
MayPassFor passes sessions numbers = All (MayPassIn passes sessions) numbers

-- every item of every session may pass
abbrev pub MayPassAll : {T : Type 0} → (ℕ → ℕ → Type 0) → List (List T) → Type 0
MayPassAll passes sessions = (session : ℕ) → session < length sessions → MayPassIn passes sessions session

-- one of so many first items of a session may be stopped
abbrev pub HasStopIn : (ℕ → ℕ → Type 0) → ℕ → ℕ → Type 0
HasStopIn stops session count = (item : ℕ) × (item < count) × stops session item

-- an item of a session may be stopped
abbrev pub HasStop : {T : Type 0} → (ℕ → ℕ → Type 0) → List (List T) → Type 0
HasStop stops sessions = (session : ℕ) × (session < length sessions) × HasStopIn stops session (length (pieces_at sessions session))

-- a worker that broke off sent some sessions whole and first items of one more, each of which may pass, and the last message
pub record IsPassedInPart {T : Type 0} (passes : ℕ → ℕ → Type 0) (sessions : List (List T)) (end : End) (sent : List (Message T)) : Type 0 where
  pub whole : List ℕ
  pub session : ℕ
  pub count : ℕ
  pub sends : sent ≡ (messages_for sessions whole ++ take count (messages_of session (pieces_at sessions session))) ++ Last end ∷ []
  pub passed : MayPassFor passes sessions whole
  pub begun : MayPassUpTo passes session count

-- whatever a worker sent may pass: all items of the sessions that its seat holds if it ended Finished, and else those that it
-- sent
pub record IsPassed {T : Type 0} (passes : ℕ → ℕ → Type 0) (sessions : List (List T)) (worked : Worked T) : Type 0 where
  pub finished : IfSome worked.ended (λ ended. MayPassFor passes sessions ended.numbers)
  pub broken : worked.end ≢ Finished → IfSome worked.sent (λ all. IsPassedInPart passes sessions worked.end all.sent)
