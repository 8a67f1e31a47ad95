-- What a host is told of a source, of a file of sessions, and of a level text.
use Rattle.std.specs.Prelude.{◌≡◌, ◌≢◌, ℕ, List, true, Ok}
use Rattle.std.specs.Str.{IsUtf8}
use Rattle.pz_describe.specs.Recordings.{recordings_description_of}
use Rattle.pz_engine.specs.Sessions.{sessions_in}
use Rattle.pz_engine.specs.declared.engine.Played.{Played}
use Rattle.pz_entries.specs.declared.entry.Entry.{Entry}
use Rattle.pz_entries.specs.declared.fault.FileFault.{FileFault}
use Rattle.pz_entries.specs.declared.fault.FileFault.TheVariants as fault
use Rattle.pz_export.specs.Lines.{IsTold, IsToldWhy}
use Rattle.pz_export.specs.declared.outcome.Outcome.{Outcome}

-- a description, as an answer
pub record IsDescription (description : List ℕ) (answer : Played) : Type 0 where
  pub text : answer.lines.items ≡ description
  pub passed : answer.passed ≡ true

-- this, as a host is told it
pub record IsDescribed (description room_before room : List ℕ) (outcome : Outcome) (count : ℕ) : Type 0 where
  pub answer : Played
  pub is_description : IsDescription description answer
  pub told : IsTold answer room_before room outcome count

-- bytes that are no text, or want of memory
pub record IsUndescribed (source room_before room : List ℕ) (outcome : Outcome) (count : ℕ) : Type 0 where
  pub cause : FileFault
  pub why : cause ≢ fault.Memory → (cause ≡ fault.NotJson) × ¬ (IsUtf8 source)
  pub told : IsToldWhy cause room_before room outcome count

-- the description of the sessions of a file, as an answer
pub record IsFileDescription (file : List ℕ) (answer : Played) : Type 0 where
  pub entries : List Entry
  pub are_entries : sessions_in file ≡ Ok entries
  pub is_description : IsDescription (recordings_description_of entries) answer

-- this, as a host is told it
pub record IsDescribedFile (file room_before room : List ℕ) (outcome : Outcome) (count : ℕ) : Type 0 where
  pub answer : Played
  pub is_description : IsFileDescription file answer
  pub told : IsTold answer room_before room outcome count
