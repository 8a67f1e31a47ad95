-- What a search tells of the sessions of a file.
use Rattle.std.specs.Prelude.{◌≡◌, ℕ, suc, List, [], ◌∷◌, ◌++◌, Ok}
use Rattle.pz_entries.specs.declared.entry.Entry.{Entry}
use Rattle.pz_record.specs.declared.order.Order.TheVariants.{Columns}
use Rattle.pz_case.specs.declared.case.Case.{Case}
use Rattle.pz_job.specs.Job.{job_of}
use Rattle.pz_engine.specs.Sessions.{sessions_in}
use Rattle.pz_solve.specs.declared.answer.Bounds.{Bounds}
use Rattle.pz_solutions.specs.declared.solution.Solution.{Solution}
use Rattle.pz_solutions.specs.Line.{session_line}
use Rattle.pz_solutions.specs.Solution.{IsSolutionOf}

-- a line tells what a search tells of the session of a case
pub record IsLineOf (bounds : Bounds) (number : ℕ) (case : Case) (line : List ℕ) : Type 0 where
  pub solution : Solution
  pub right : IsSolutionOf bounds case.plan solution
  pub told : line ≡ session_line number solution

-- lines tell of the sessions of cases, which are numbered from this number on
abbrev pub AreLinesOf : Bounds → ℕ → List Case → List ℕ → Type 0
AreLinesOf bounds number [] lines = lines ≡ []
AreLinesOf bounds number (case ∷ cases) lines = (line : List ℕ) × (later : List ℕ) × (lines ≡ line ++ later) × IsLineOf bounds number case line × AreLinesOf bounds (suc number) cases later

-- a job is that of a file; recorded levels, by columns here, are no part of what is solved
pub record IsJobOf (bytes : List ℕ) (job : List Case) : Type 0 where
  pub entries : List Entry
  pub read : sessions_in bytes ≡ Ok entries
  pub is : job ≡ job_of Columns entries

-- lines tell of the sessions of a file
pub record AreSolutionsOf (bounds : Bounds) (bytes lines : List ℕ) : Type 0 where
  pub job : List Case
  pub is : IsJobOf bytes job
  pub told : AreLinesOf bounds 0 job lines
