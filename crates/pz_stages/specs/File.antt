-- The stages of a session of a file.
use Rattle.std.specs.Prelude.{◌≡◌, ℕ, List, [], slice_get, Option, Some, None, Result, Ok, Err}
use Rattle.pz_entries.specs.declared.entry.Entry.{Entry}
use Rattle.pz_record.specs.declared.order.Order.{Order}
use Rattle.pz_case.specs.declared.case.Case.{Case}
use Rattle.pz_case.specs.declared.item.Refusal.{Refusal}
use Rattle.pz_case.specs.Plan.{PlanState}
use Rattle.pz_job.specs.Job.{job_of}
use Rattle.pz_engine.specs.Sessions.{sessions_in}
use Rattle.pz_steps.specs.Steps.{steps_at}
use Rattle.pz_stages.specs.Stages.{input_lines}
use Rattle.pz_stages.specs.declared.detail.Detail.{Detail}

-- a refused session has no stages
abbrev pub plan_lines : Detail → ℕ → Result PlanState Refusal → List ℕ
plan_lines detail number (Err refusal) = []
plan_lines detail number (Ok plan) = input_lines detail number (steps_at plan number)

-- nor has one that isn't there
abbrev pub case_lines : Detail → ℕ → Option Case → List ℕ
case_lines detail number None = []
case_lines detail number (Some case) = plan_lines detail number case.plan

-- the lines of a session's input, both by their numbers
abbrev pub session_lines : Detail → Order → List Entry → ℕ → ℕ → List ℕ
session_lines detail order entries session number = case_lines detail number (slice_get (job_of order entries) session)

-- lines that are those of an input of a session of a file
pub record AreStagesOf (detail : Detail) (order : Order) (bytes : List ℕ) (session number : ℕ) (lines : List ℕ) : Type 0 where
  pub entries : List Entry
  pub read : sessions_in bytes ≡ Ok entries
  pub whole : lines ≡ session_lines detail order entries session number
