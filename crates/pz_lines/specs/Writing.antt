-- What goes out to a writer, and is counted.
use Rattle.std.specs.Prelude.{◌≡◌, ◌≢◌, ◌⊎◌, ◌≤◌, ◌^◌, ℕ, ◌+◌, zero, suc, List, Option, Some, Result, Ok, Err, length, take}
use Rattle.std.specs.Io.KnownBytes.{Appends}
use Rattle.pz_lines.specs.declared.fault.Cause.{Cause}
use Rattle.pz_lines.specs.declared.fault.Cause.TheVariants.{Memory, Device, Zero}
use Rattle.pz_lines.specs.declared.fault.WriteFault.{WriteFault}

-- what a write of some bytes answered: how many it took, or why it failed; one that takes nothing has failed
abbrev pub write_answer : {E : Type 0} → Result ℕ E → Result ℕ Cause
write_answer (Ok zero) = Err Zero
write_answer (Ok (suc more)) = Ok (suc more)
write_answer (Err error) = Err Device

-- what contracts see of a writer: the bytes that it holds, if they are known, and why a write failed, if one did
pub record Writes : Type 0 where
  pub contents : Option (List ℕ)
  pub failure : Option Cause

-- a text went out whole, and no write failed
pub record HasWritten (text : List ℕ) (old new : Writes) : Type 0 where
  pub sent : Appends old.contents new.contents text
  pub sound : new.failure ≡ old.failure

-- a text went out, and then a write failed, which the writer remembers; want of memory is no failure of a write
pub record HasFailed (cause : Cause) (text : List ℕ) (old new : Writes) : Type 0 where
  pub sent : Appends old.contents new.contents text
  pub failed : new.failure ≡ Some cause
  pub other : cause ≢ Memory

-- a text went out whole, and was counted
pub record IsSent (text : List ℕ) (before after : ℕ) (old new : Writes) : Type 0 where
  pub counted : after ≡ before + length text
  pub written : HasWritten text old new

-- some first bytes of a text went out, and were counted: there was no memory for the rest, a write failed, or no u64 counts them all
pub record IsSentInPart (text : List ℕ) (before after : ℕ) (old new : Writes) (cause : Cause) : Type 0 where
  pub count : ℕ
  pub counted : after ≡ before + count
  pub within : count ≤ length text
  pub sent : Appends old.contents new.contents (take count text)
  pub why : cause ≢ Memory → (new.failure ≡ Some cause) ⊎ (2 ^ 64 ≤ before + length text)
  pub sound : cause ≡ Memory → new.failure ≡ old.failure

-- the writing of a text ended with a fault that tells how many first bytes went out: a write failed for the cause that it tells,
-- or none failed and memory was refused
pub record EndsFor (fault : WriteFault) (text : List ℕ) (old new : Writes) : Type 0 where
  pub within : fault.written ≤ length text
  pub sent : Appends old.contents new.contents (take fault.written text)
  pub why : fault.cause ≢ Memory → (new.failure ≡ Some fault.cause) ⊎ (2 ^ 64 ≤ length text)
  pub sound : fault.cause ≡ Memory → new.failure ≡ old.failure
