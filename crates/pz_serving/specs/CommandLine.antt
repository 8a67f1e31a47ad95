-- From the words of a command line to the lines of a recording and an exit status.
use Rattle.std.specs.Prelude.{◌≡◌, ◌⊎◌, ℕ, Bool, false, List, Option, Some, None, IsSome, IsNone, Result, Err}
use Rattle.clap.specs.Words.{Text}
use Rattle.pz_lines.specs.Writing.{Writes}
use Rattle.pz_console.specs.Options.{options_of}
use Rattle.pz_console.specs.Reading.{Reads}
use Rattle.pz_serving.specs.Serving.{ReadsFor, Serves}
use Rattle.pz_console.specs.declared.options.Chosen.{Chosen}
use Rattle.pz_console.specs.declared.failure.Failure.{Failure}
use Rattle.pz_console.specs.declared.failure.Failure.TheVariants.{Memory, BadLine, OpenFault}

-- the reader of a file that was opened, which was not called yet
abbrev pub IsFresh : {F : Type 0} → (F → Option (List ℕ)) → Reads → Type 0
IsFresh {F = F} remaining reads = (file : F) × (reads ≡ record { remaining = remaining file; calls = 0; has_failed = false })

-- who reads the sessions: the input's reader if the words name no FILE, and else the reader of a file, not called before
abbrev pub IsReader : {F : Type 0} → (F → Option (List ℕ)) → Chosen → Reads → Reads → Reads → Reads → Type 0
IsReader remaining chosen input input_after before after =
    (IsNone chosen.file × (before ≡ input) × (after ≡ input_after))
    ⊎ (IsSome chosen.file × IsFresh remaining before)

-- the sessions are those of the input if the words name no FILE, and else those of a file that was opened
pub record ServesChosen {F : Type 0} (remaining : F → Option (List ℕ)) (words : List Text) (input input_after : Reads) (old new : Writes) (end : Result Bool Failure) : Type 0 where
  pub chosen : Chosen
  pub said : options_of words ≡ Some chosen
  pub before : Reads
  pub after : Reads
  pub reader : IsReader remaining chosen input input_after before after
  pub reads : ReadsFor end after
  pub served : Serves chosen.options.order before.remaining old new end

-- the words name a FILE
pub record NamesFile (words : List Text) : Type 0 where
  pub chosen : Chosen
  pub said : options_of words ≡ Some chosen
  pub named : IsSome chosen.file

-- program.faults: what a run over these words leaves in its output, if it ends so. A line that is refused reads nothing, and a
-- read of the input that failed is never told as want of memory
abbrev pub Obeys : {F : Type 0} → (F → Option (List ℕ)) → List Text → Reads → Reads → Writes → Writes → Result Bool Failure → Type 0
Obeys remaining words input input_after old new (Err Memory) = (new ≡ old) × (input_after.has_failed ≡ false)
Obeys remaining words input input_after old new (Err BadLine) = (new ≡ old) × (input_after ≡ input) × (options_of words ≡ None)
Obeys remaining words input input_after old new (Err OpenFault) = (new ≡ old) × NamesFile words
Obeys remaining words input input_after old new end = ServesChosen remaining words input input_after old new end
