-- From the bytes of a file of sessions to the lines of their recording and an exit status.
use Rattle.std.specs.Prelude.{◌≡◌, ◌≢◌, ◌↔◌, ◌≤◌, ◌+◌, ℕ, Bool, true, false, List, if◌then◌else◌, Option, IfSome, Result, Ok, Err}
use Rattle.std.specs.IoError.{error_kind}
use Rattle.std.specs.declared.io.Error.{Error}
use Rattle.std.specs.declared.io.ErrorKind.{ErrorKind}
use Rattle.std.specs.declared.io.ErrorKind.TheVariants.{OutOfMemory}
use Rattle.pz_entries.specs.declared.entry.Entry.{Entry}
use Rattle.pz_entries.specs.declared.fault.FileFault.TheVariants as fault
use Rattle.pz_entries.specs.declared.file.TheConstants.{MOST_BYTES}
use Rattle.pz_record.specs.declared.order.Order.{Order}
use Rattle.pz_case.specs.declared.case.Case.{Case}
use Rattle.pz_case.specs.declared.recording.Record.{Record}
use Rattle.pz_job.specs.Job.{job_of}
use Rattle.pz_lines.specs.declared.fault.WriteFault.{WriteFault}
use Rattle.pz_lines.specs.Lines.{text_of}
use Rattle.pz_lines.specs.Writing.{Writes, EndsFor, HasWritten}
use Rattle.pz_engine.specs.Sessions.{all_passed, sessions_in, shown_of}
use Rattle.pz_console.specs.declared.failure.Failure.{Failure}
use Rattle.pz_console.specs.declared.failure.Failure.TheVariants as failure
use Rattle.pz_console.specs.Failures.{IsReported, failure_line}
use Rattle.pz_console.specs.Reading.{Reads}

-- all lines went out, and the answer tells whether every session passed
pub record WritesAll (order : Order) (bytes : List ℕ) (passed : Bool) (old new : Writes) : Type 0 where
  pub entries : List Entry
  pub read : sessions_in bytes ≡ Ok entries
  pub told : passed ≡ all_passed (shown_of order entries)
  pub written : HasWritten (text_of (shown_of order entries)) old new

-- as many first bytes of the lines went out as the fault tells
pub record WritesPart (order : Order) (bytes : List ℕ) (cut : WriteFault) (old new : Writes) : Type 0 where
  pub entries : List Entry
  pub read : sessions_in bytes ≡ Ok entries
  pub ended : EndsFor cut (text_of (shown_of order entries)) old new

-- what playing sessions leaves in its output, if it ends so: all lines of what they show, as many first bytes as a fault of writing
-- tells, or nothing, if memory was refused. No worker's lane is lost
abbrev pub Plays : List Record → Writes → Writes → Result Bool Failure → Type 0
Plays shown old new (Ok passed) = (passed ≡ all_passed shown) × HasWritten (text_of shown) old new
Plays shown old new (Err (failure.WriteFault cut)) = EndsFor cut (text_of shown) old new
Plays shown old new (Err failure.Memory) = new ≡ old
Plays shown old new (Err other) = ⊥

-- these are the bytes of the input, if its bytes are known
abbrev pub AreOf : Option (List ℕ) → List ℕ → Type 0
AreOf input bytes = IfSome input (λ all. bytes ≡ all)

-- these are the cases of the sessions that the input's bytes hold, which were read without a fault
pub record IsJobOf (order : Order) (input : Option (List ℕ)) (reads : Reads) (job : List Case) : Type 0 where
  pub sound : reads.has_failed ≡ false
  pub bytes : List ℕ
  pub of_input : AreOf input bytes
  pub entries : List Entry
  pub read : sessions_in bytes ≡ Ok entries
  pub made : job ≡ job_of order entries

-- what a run over this input leaves in its output, if it ends so: nothing, unless sessions were read and replayed. The file's
-- fault, the lines and whether all passed are those of one list of bytes, even if nobody knows the input's bytes before. The
-- command line and the opening of FILE come before it. No lane is lost
abbrev pub Serves : Order → Option (List ℕ) → Writes → Writes → Result Bool Failure → Type 0
Serves order input old new (Ok passed) = (bytes : List ℕ) × AreOf input bytes × WritesAll order bytes passed old new
Serves order input old new (Err (failure.WriteFault cut)) = (bytes : List ℕ) × AreOf input bytes × WritesPart order bytes cut old new
Serves order input old new (Err (failure.File cause)) = (new ≡ old) × (bytes : List ℕ) × AreOf input bytes × (cause ≢ fault.Memory → sessions_in bytes ≡ Err cause)
Serves order input old new (Err failure.LaneLost) = ⊥
Serves order input old new (Err failure.BadLine) = ⊥
Serves order input old new (Err failure.OpenFault) = ⊥
Serves order input old new (Err other) = new ≡ old

-- a run ends with a failed read exactly if a call of the reader answered an error; the calls are bounded
pub record ReadsFor (end : Result Bool Failure) (reads : Reads) : Type 0 where
  pub called : reads.calls ≤ MOST_BYTES + 1
  pub failed : (end ≡ Err failure.ReadFault) ↔ (reads.has_failed ≡ true)

abbrev pub is_want_of_memory : ErrorKind → Bool
is_want_of_memory OutOfMemory = true
is_want_of_memory _ = false

-- why FILE was not opened: memory was refused, or else it can't be opened
abbrev pub failure_at : ErrorKind → Failure
failure_at kind = if is_want_of_memory kind then failure.Memory else failure.OpenFault

-- what a run over FILE leaves in its output: what a run over its bytes leaves if FILE was opened, and else nothing
abbrev pub ServesOpened : Order → Result Reads Error → Result Reads Error → Writes → Writes → Result Bool Failure → Type 0
ServesOpened order (Ok before) (Ok after) old new end = ReadsFor end after × Serves order before.remaining old new end
ServesOpened order (Err error) (Err same) old new end = (new ≡ old) × (end ≡ Err (failure_at (error_kind error)))
ServesOpened order before after old new end = ⊥

-- program.status: 0: every session passed; 1: some didn't; 2: there is no whole recording
abbrev pub status_of : Result Bool Failure → ℕ
status_of (Ok passed) = if passed then 0 else 1
status_of (Err failure) = 2

-- a failure has its line, and nothing else has one
abbrev pub Reports : Writes → Writes → Result Bool Failure → Type 0
Reports old new (Ok passed) = new ≡ old
Reports old new (Err cause) = IsReported (failure_line cause) old new
