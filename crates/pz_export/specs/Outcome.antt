-- How a call ended, as a host is told it.
use Rattle.std.specs.Prelude.{◌≡◌, ℕ, Bool, true, false}
use Rattle.pz_entries.specs.declared.fault.FileFault.{FileFault}
use Rattle.pz_entries.specs.declared.fault.FileFault.TheVariants as fault
use Rattle.pz_export.specs.declared.outcome.Outcome.{Outcome}
use Rattle.pz_export.specs.declared.outcome.TheConstants.{PASSED, NOT_PASSED, REFUSED}

abbrev pub status_of : Bool → ℕ
status_of true = PASSED
status_of false = NOT_PASSED

-- the kinds of faults are numbered from 1
abbrev pub kind_of : FileFault → ℕ
kind_of fault.Memory = 1
kind_of fault.NotJson = 2
kind_of (fault.BadEntry entry) = 3
kind_of (fault.BadLevel entry) = 4
kind_of fault.TooMany = 5

-- the entry that has a fault, or 0 if it is the whole file's
abbrev pub entry_of : FileFault → ℕ
entry_of (fault.BadEntry entry) = entry
entry_of (fault.BadLevel entry) = entry
entry_of other = 0

-- whether every session passed
pub record SaysPlayed (passed : Bool) (outcome : Outcome) : Type 0 where
  pub status : outcome.status ≡ status_of passed
  pub fault : outcome.fault ≡ 0
  pub entry : outcome.entry ≡ 0

-- why a file was refused
pub record SaysRefused (cause : FileFault) (outcome : Outcome) : Type 0 where
  pub status : outcome.status ≡ REFUSED
  pub fault : outcome.fault ≡ kind_of cause
  pub entry : outcome.entry ≡ entry_of cause
