-- What a run gives one by one, and the recording of a job, whoever plays its cases.
use Rattle.std.specs.Prelude.{◌≡◌, ℕ, List, [], ◌∷◌, map, Option, Some, None}
use Rattle.pz_case.specs.declared.case.Case.{Case}
use Rattle.pz_case.specs.declared.item.Item.{Item}
use Rattle.pz_case.specs.declared.recording.Record.{Record}

-- an answer is the first of what was left
abbrev pub Yields : {T : Type 0} → List T → Option T → List T → Type 0
Yields before None after = (before ≡ []) × (after ≡ [])
Yields before (Some first) after = before ≡ first ∷ after

-- the items of each session of a job, if `items_of` gives those of a case
abbrev pub sessions_of : (Case → List Item) → List Case → List (List Item)
sessions_of items_of job = map items_of job

-- the name and the items of a case, if `items_of` gives them
abbrev pub shown_by : (Case → List Item) → Case → Record
shown_by items_of case = record { name = case.name; items = items_of case }

-- every session of the job in its order, none left out
abbrev pub recording : (Case → List Item) → List Case → List Record
recording items_of job = map (shown_by items_of) job
