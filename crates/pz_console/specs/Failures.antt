-- The lines that say why there is no whole recording.
use Rattle.std.specs.Prelude.{◌⊎◌, ℕ, List, ◌++◌, IsSome, take, codes, decimal}
use Rattle.std.specs.Io.KnownBytes.{Appends}
use Rattle.pz_entries.specs.declared.fault.FileFault.{FileFault}
use Rattle.pz_entries.specs.declared.fault.FileFault.TheVariants as fault
use Rattle.pz_lines.specs.Writing.{Writes, HasWritten}
use Rattle.pz_console.specs.declared.failure.Failure.{Failure}
use Rattle.pz_console.specs.declared.failure.Failure.TheVariants as failure

abbrev pub file_line : FileFault → List ℕ
file_line fault.Memory = codes "memory\n"
file_line fault.NotJson = codes "not-json\n"
file_line (fault.BadEntry n) = codes "bad-entry " ++ decimal n ++ codes "\n"
file_line (fault.BadLevel n) = codes "bad-level " ++ decimal n ++ codes "\n"
file_line fault.TooMany = codes "too-many\n"

-- program.failures: the line that says why there is none
abbrev pub failure_line : Failure → List ℕ
failure_line failure.Memory = codes "memory\n"
failure_line failure.BadLine = codes "bad command line\n"
failure_line failure.OpenFault = codes "open-fault\n"
failure_line failure.ReadFault = codes "read-fault\n"
failure_line (failure.File cause) = file_line cause
failure_line failure.LaneLost = codes "lane-lost\n"
failure_line (failure.WriteFault cut) = codes "write-fault " ++ decimal cut.written ++ codes "\n"

-- a front of a line goes out, and then a write fails
abbrev pub IsCut : List ℕ → Writes → Writes → Type 0
IsCut line old new = IsSome new.failure × (count : ℕ) × Appends old.contents new.contents (take count line)

-- a line goes out whole, or a front of it before a write fails
abbrev pub IsReported : List ℕ → Writes → Writes → Type 0
IsReported line old new = HasWritten line old new ⊎ IsCut line old new
