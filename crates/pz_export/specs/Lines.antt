-- What a host is answered.
use Rattle.std.specs.Prelude.{◌≡◌, ◌≢◌, ℕ, List, length, drop, ◌++◌, nat_lt, nat_eq, if◌then◌else◌, true, Err}
use Rattle.pz_entries.specs.declared.fault.FileFault.{FileFault}
use Rattle.pz_entries.specs.declared.fault.FileFault.TheVariants as fault
use Rattle.pz_record.specs.declared.order.Order.{Order}
use Rattle.pz_record.specs.declared.order.Order.TheVariants.{Columns, Rows}
use Rattle.pz_case.specs.declared.recording.Record.{Record}
use Rattle.pz_engine.specs.Engine.{IsPlayed}
use Rattle.pz_engine.specs.Sessions.{sessions_in}
use Rattle.pz_engine.specs.declared.engine.Played.{Played}
use Rattle.pz_stages.specs.File.{AreStagesOf}
use Rattle.pz_stages.specs.declared.detail.Detail.{Detail}
use Rattle.pz_export.specs.Outcome.{SaysPlayed, SaysRefused}
use Rattle.pz_export.specs.declared.outcome.Outcome.{Outcome}

-- the order of a number: 0 for rows
abbrev pub order_of : ℕ → Order
order_of number = if nat_eq number 0 then Rows else Columns

-- a room that begins with these bytes if they fit, and else is as it was
abbrev pub begun_with : List ℕ → List ℕ → List ℕ
begun_with bytes room = if nat_lt (length room) (length bytes) then room else bytes ++ drop (length bytes) room

-- a host is told of an answer: whether every session passed, the number of bytes of its lines, and in the room the lines if they
-- fit
pub record IsTold (answer : Played) (room_before room : List ℕ) (outcome : Outcome) (count : ℕ) : Type 0 where
  pub says : SaysPlayed answer.passed outcome
  pub counted : count ≡ length answer.lines.items
  pub held : room ≡ begun_with answer.lines.items room_before

-- a host is told why a file was refused; the room is as it was
pub record IsToldWhy (cause : FileFault) (room_before room : List ℕ) (outcome : Outcome) (count : ℕ) : Type 0 where
  pub says : SaysRefused cause outcome
  pub counted : count ≡ 0
  pub kept : room ≡ room_before

-- a text of what the sessions of a file show, as a host is told it
pub record IsAnswered (text : List Record → List ℕ) (order : Order) (file room_before room : List ℕ) (outcome : Outcome) (count : ℕ) : Type 0 where
  pub answer : Played
  pub is_played : IsPlayed text order file answer
  pub told : IsTold answer room_before room outcome count

-- the stages of an input of a session of a file; no session of them has to pass
pub record AreStaged (detail : Detail) (order : Order) (file : List ℕ) (session number : ℕ) (answer : Played) : Type 0 where
  pub are_stages : AreStagesOf detail order file session number answer.lines.items
  pub passed : answer.passed ≡ true

-- these, as a host is told them
pub record IsStaged (detail : Detail) (order : Order) (file : List ℕ) (session number : ℕ) (room_before room : List ℕ) (outcome : Outcome) (count : ℕ) : Type 0 where
  pub answer : Played
  pub are_staged : AreStaged detail order file session number answer
  pub told : IsTold answer room_before room outcome count

-- a file's fault, or want of memory
pub record IsRefused (file room_before room : List ℕ) (outcome : Outcome) (count : ℕ) : Type 0 where
  pub cause : FileFault
  pub why : cause ≢ fault.Memory → sessions_in file ≡ Err cause
  pub told : IsToldWhy cause room_before room outcome count
