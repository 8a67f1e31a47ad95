-- What a host is told of an answer.
use Rattle.std.proofs.Common.{◌≡◌, ◌≢◌, ℕ, Bool, true, false, List, Result, Ok, Err, IfOk, IfErr, sym, ◌∙◌, arith}
use Rattle.pz_entries.specs.declared.fault.FileFault.{FileFault}
use Rattle.pz_entries.specs.declared.fault.FileFault.TheVariants as fault
use Rattle.pz_record.specs.declared.order.Order.{Order}
use Rattle.pz_case.specs.declared.recording.Record.{Record}
use Rattle.pz_engine.specs.Engine.{IsPlayed}
use Rattle.pz_engine.specs.Sessions.{sessions_in}
use Rattle.pz_engine.specs.declared.engine.Played.{Played}
use Rattle.std.specs.Str.{IsUtf8}
use Rattle.pz_export.specs.Description.{IsDescribed, IsDescribedFile, IsDescription, IsFileDescription, IsUndescribed}
use Rattle.pz_export.specs.Lines.{AreStaged, IsAnswered, IsRefused, IsStaged, IsTold, IsToldWhy}
use Rattle.pz_export.specs.Outcome.{status_of}
use Rattle.pz_solve.specs.declared.answer.Bounds.{Bounds}
use Rattle.pz_export.specs.Solutions.{AreSolved, IsSolvedFile}
use Rattle.pz_export.specs.declared.outcome.Outcome.{Outcome}
use Rattle.pz_stages.specs.declared.detail.Detail.{Detail}

pub answered : (text : List Record → List ℕ) (order : Order) (file room_before room : List ℕ) (outcome : Outcome) (count : ℕ) (r : Result Played FileFault)
    → IfOk r (IsPlayed text order file) → IfOk r (λ played. IsTold played room_before room outcome count) → IfErr r (λ cause. IsToldWhy cause room_before room outcome count)
    → outcome.status ≢ 2 → IsAnswered text order file room_before room outcome count
answered text order file room_before room outcome count (Ok played) is told why other = record { answer = played; is_played = is; told = told }
answered text order file room_before room outcome count (Err cause) is told why other = absurd (other why.says.status)

pub staged : (detail : Detail) (order : Order) (file : List ℕ) (session number : ℕ) (room_before room : List ℕ) (outcome : Outcome) (count : ℕ) (r : Result Played FileFault)
    → IfOk r (AreStaged detail order file session number) → IfOk r (λ played. IsTold played room_before room outcome count) → IfErr r (λ cause. IsToldWhy cause room_before room outcome count)
    → outcome.status ≢ 2 → IsStaged detail order file session number room_before room outcome count
staged detail order file session number room_before room outcome count (Ok played) are told why other = record { answer = played; are_staged = are; told = told }
staged detail order file session number room_before room outcome count (Err cause) are told why other = absurd (other why.says.status)

pub solved : (bounds : Bounds) (file room_before room : List ℕ) (outcome : Outcome) (count : ℕ) (r : Result Played FileFault)
    → IfOk r (AreSolved bounds file) → IfOk r (λ played. IsTold played room_before room outcome count) → IfErr r (λ cause. IsToldWhy cause room_before room outcome count)
    → outcome.status ≢ 2 → IsSolvedFile bounds file room_before room outcome count
solved bounds file room_before room outcome count (Ok played) are told why other = record { answer = played; are_solved = are; told = told }
solved bounds file room_before room outcome count (Err cause) are told why other = absurd (other why.says.status)

pub described : (description room_before room : List ℕ) (outcome : Outcome) (count : ℕ) (r : Result Played FileFault)
    → IfOk r (IsDescription description) → IfOk r (λ played. IsTold played room_before room outcome count) → IfErr r (λ cause. IsToldWhy cause room_before room outcome count)
    → outcome.status ≢ 2 → IsDescribed description room_before room outcome count
described description room_before room outcome count (Ok played) is told why other = record { answer = played; is_description = is; told = told }
described description room_before room outcome count (Err cause) is told why other = absurd (other why.says.status)

pub described_file : (file room_before room : List ℕ) (outcome : Outcome) (count : ℕ) (r : Result Played FileFault)
    → IfOk r (IsFileDescription file) → IfOk r (λ played. IsTold played room_before room outcome count) → IfErr r (λ cause. IsToldWhy cause room_before room outcome count)
    → outcome.status ≢ 2 → IsDescribedFile file room_before room outcome count
described_file file room_before room outcome count (Ok played) is told why other = record { answer = played; is_description = is; told = told }
described_file file room_before room outcome count (Err cause) is told why other = absurd (other why.says.status)

is_other : (passed : Bool) → status_of passed ≡ 2 → ⊥
is_other true e = omega (arith, e)
is_other false e = omega (arith, e)

pub refused : (file room_before room : List ℕ) (outcome : Outcome) (count : ℕ) (r : Result Played FileFault)
    → IfErr r (λ cause. cause ≢ fault.Memory → sessions_in file ≡ Err cause) → IfOk r (λ played. IsTold played room_before room outcome count) → IfErr r (λ cause. IsToldWhy cause room_before room outcome count)
    → outcome.status ≡ 2 → IsRefused file room_before room outcome count
refused file room_before room outcome count (Ok played) is told why status = absurd (is_other played.passed (sym told.says.status ∙ status))
refused file room_before room outcome count (Err cause) is told why status = record { cause = cause; why = is; told = why }

pub undescribed : (source room_before room : List ℕ) (outcome : Outcome) (count : ℕ) (r : Result Played FileFault)
    → IfErr r (λ cause. cause ≢ fault.Memory → (cause ≡ fault.NotJson) × ¬ (IsUtf8 source)) → IfOk r (λ played. IsTold played room_before room outcome count) → IfErr r (λ cause. IsToldWhy cause room_before room outcome count)
    → outcome.status ≡ 2 → IsUndescribed source room_before room outcome count
undescribed source room_before room outcome count (Ok played) is told why status = absurd (is_other played.passed (sym told.says.status ∙ status))
undescribed source room_before room outcome count (Err cause) is told why status = record { cause = cause; why = is; told = why }
