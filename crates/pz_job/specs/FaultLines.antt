-- Where the fault lies for which a session is refused.
use Rattle.std.specs.Prelude.{◌≡◌, ℕ, ◌<◌, ◌≤◌, List, length, Result, Err, slice_index_or}
use Rattle.pz_base.specs.declared.fault.SourceFault.{SourceFault}
use Rattle.pz_source.specs.Reading.{line_count}
use Rattle.pz_entries.specs.declared.entry.Entry.{Entry}
use Rattle.pz_case.specs.declared.case.Case.{Case}
use Rattle.pz_case.specs.declared.item.Refusal.{Refusal}
use Rattle.pz_case.specs.declared.item.Refusal.TheVariants.{Source}
use Rattle.pz_case.specs.Plan.{PlanState}

-- a fault of the source names one of its lines, counted from 1, or none, which is 0
abbrev pub NamesALine : List ℕ → Result PlanState Refusal → Type 0
NamesALine source plan = (fault : SourceFault) → plan ≡ Err (Source fault) → fault.line ≤ line_count source

-- the same for each session of a job
abbrev pub NameLines : List Entry → List Case → Type 0
NameLines entries job = (number : ℕ) (entry : Entry) (case : Case) → number < length entries
    → NamesALine (slice_index_or entries number entry).source (slice_index_or job number case).plan
