-- What workers and their recorder make of a job.
use Rattle.std.specs.Prelude.{◌≡◌, ℕ, ◌+◌, List, [], ◌∷◌, ◌++◌, map, length, sum_by, None}
use Rattle.pz_claims.specs.Holders.{Numbers, Makes}
use Rattle.pz_claims.specs.Rule.{times, Once}
use Rattle.pz_crew.specs.Gates.{HasStop, IsPassed}
use Rattle.pz_crew.specs.Lane.{LaneId}
use Rattle.pz_crew.specs.Sent.{sent_for}
use Rattle.pz_crew.specs.Recorded.{Gathered, taken_of, lane_of}
use Rattle.pz_crew.specs.Worked.{IsWorked}
use Rattle.pz_crew.specs.declared.lane.End.TheVariants.{GateClosed}
use Rattle.pz_crew.specs.declared.recorder.Inbox.{Inbox}
use Rattle.pz_crew.specs.declared.work.Worked.{Worked}

-- what a worker owes that was given a lane: what it sent are sessions that it claimed, all of which may pass; and if the gate was closed to
-- it, the gate may stop a piece
abbrev pub Keeps : {T : Type 0} → Numbers → List (List T) → (ℕ → ℕ → Type 0) → (ℕ → ℕ → Type 0) → LaneId → Worked T → Type 0
Keeps claims sessions passes stops lane worked =
    IsWorked claims sessions lane worked × IsPassed passes sessions worked × (worked.end ≡ GateClosed → HasStop stops sessions)

-- `lists` has the numbers of each of so many further workers: what they sent is recorded beside what was taken at the inboxes, and the
-- maker, which was `before` and is now `after`, has their numbers
abbrev pub IsWhole : {T : Type 0} → List (List T) → Makes → ℕ → List (List ℕ) → List (Inbox T) → Makes → List (List T) → Type 0
IsWhole sessions before workers lists inboxes after recorded =
    Gathered (map taken_of inboxes ++ map (sent_for sessions) lists) recorded
    × (length recorded ≡ length sessions)
    × ((number : ℕ) → times number after.numbers ≡ times number before.numbers + sum_by (times number) lists)
    × (after.of ≡ before.of) × (after.made ≡ before.made + workers) × (after.joined ≡ before.joined + workers)

abbrev pub IsDone : {T : Type 0} → List (List T) → Makes → ℕ → List (Inbox T) → Makes → List (List T) → Type 0
IsDone sessions before workers inboxes after recorded = (lists : List (List ℕ)) × IsWhole sessions before workers lists inboxes after recorded

-- one worker more is settled: the maker takes its numbers over, and what was taken at its inbox is all that it sent for them
abbrev pub IsSettled : {T : Type 0} → List (List T) → Inbox T → Makes → List (List T) → Makes → List (List T) → Type 0
IsSettled sessions inbox before recorded after still =
    (still ≡ recorded)
    × ((numbers : List ℕ) × (after ≡ record before { numbers = before.numbers ++ numbers; joined = before.joined + 1 }) × (taken_of inbox ≡ sent_for sessions numbers))

-- one inbox more, of this lane, at which nothing was taken
abbrev pub IsOpened : {T : Type 0} → List (Inbox T) → List (Inbox T) → LaneId → Type 0
IsOpened {T = T} before after lane = (inbox : Inbox T) × (after ≡ before ++ inbox ∷ []) × (taken_of inbox ≡ []) × (inbox.end ≡ None) × (lane_of inbox ≡ lane)

-- all workers are joined; if the maker holds each number once, each session's items were recorded
abbrev pub IsAll : {T : Type 0} → List (List T) → Numbers → ℕ → Makes → List (List T) → Type 0
IsAll sessions claims workers maker recorded =
    (maker.of ≡ claims) × (maker.made ≡ workers) × (maker.joined ≡ workers) × (Once claims.total maker.numbers → recorded ≡ sessions)
