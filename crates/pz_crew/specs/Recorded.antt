-- What the recorder has taken, and what it keeps.
use Rattle.std.specs.Prelude.{◌≡◌, ◌≢◌, ◌⊎◌, ◌<◌, ◌==◌, if◌then◌else◌, ℕ, List, [], ◌∷◌, ◌++◌, map, length, slice_index_or, slice_set, Option, Some, None, IfSome, IsSome, All}
use Rattle.pz_crew.specs.Lane.{LaneId}
use Rattle.pz_crew.specs.declared.lane.End.{End}
use Rattle.pz_crew.specs.declared.lane.Message.{Message}
use Rattle.pz_crew.specs.declared.lane.Message.TheVariants as messages
use Rattle.pz_crew.specs.declared.recorder.Inbox.{Inbox}

-- the items of one session among messages
abbrev pub of_session : {T : Type 0} → ℕ → List (Message T) → List T
of_session number [] = []
of_session number (messages.Piece session item ∷ later) = if session == number then item ∷ of_session number later else of_session number later
of_session number (messages.Last end ∷ later) = of_session number later

-- the items of each session after one message more
abbrev pub kept : {T : Type 0} → List (List T) → Message T → List (List T)
kept sessions (messages.Piece session item) = slice_set sessions session (slice_index_or sessions session [] ++ item ∷ [])
kept sessions (messages.Last end) = sessions

-- if only one lane has items of a session, the session has the items of that lane; `lanes` has what was taken from each
abbrev pub Gathered : {T : Type 0} → List (List (Message T)) → List (List T) → Type 0
Gathered lanes sessions =
    (number lane : ℕ) → number < length sessions → ((other : ℕ) → other ≢ lane → of_session number (slice_index_or lanes other []) ≡ [])
    → slice_index_or sessions number [] ≡ of_session number (slice_index_or lanes lane [])

-- the end that is known after a message
abbrev pub end_after : {T : Type 0} → Message T → Option End
end_after (messages.Piece session item) = None
end_after (messages.Last end) = Some end

abbrev pub taken_of : {T : Type 0} → Inbox T → List (Message T)
taken_of inbox = inbox.taker.taken

abbrev pub lane_of : {T : Type 0} → Inbox T → LaneId
lane_of inbox = inbox.taker.lane

abbrev pub HasEnded : {T : Type 0} → Inbox T → Type 0
HasEnded inbox = IsSome inbox.end

-- if an end is known, it was the last message
abbrev pub IsHonest : {T : Type 0} → Inbox T → Type 0
IsHonest {T = T} inbox = IfSome inbox.end (λ end. (front : List (Message T)) × (taken_of inbox ≡ front ++ messages.Last end ∷ []))

-- sessions that are still kept have grown by the message
abbrev pub HasKept : {T : Type 0} → Message T → Option (List (List T)) → Option (List (List T)) → Type 0
HasKept message before after = IfSome after (λ now. IfSome before (λ was. now ≡ kept was message) × IsSome before)

-- a visit took nothing, or one message
abbrev pub IsVisited : {T : Type 0} → Inbox T → Inbox T → Option (List (List T)) → Option (List (List T)) → Type 0
IsVisited {T = T} old new before after =
    ((taken_of new ≡ taken_of old) × (new.end ≡ old.end) × (after ≡ before))
    ⊎ ((message : Message T) × (taken_of new ≡ taken_of old ++ message ∷ []) × (new.end ≡ end_after message) × HasKept message before after)

-- the sessions have what was taken at the inboxes
pub record IsRecorded {T : Type 0} (inboxes : List (Inbox T)) (sessions : Option (List (List T))) : Type 0 where
  pub gathered : IfSome sessions (Gathered (map taken_of inboxes))
  pub honest : All IsHonest inboxes

-- sessions that are still kept are as many as before
abbrev pub IsAsLong : {T : Type 0} → Option (List (List T)) → Option (List (List T)) → Type 0
IsAsLong before after = IfSome after (λ now. IfSome before (λ was. length now ≡ length was) × IsSome before)

-- the same lanes, and as many sessions
pub record GoesOn {T : Type 0} (old new : List (Inbox T)) (before after : Option (List (List T))) : Type 0 where
  pub same : map lane_of new ≡ map lane_of old
  pub long : IsAsLong before after
