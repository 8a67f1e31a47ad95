-- What a gate lets pass, as a worker goes on, and as what the workers hand back comes together.
use Rattle.std.proofs.Common.{◌≡◌, ℕ, suc, ◌+◌, ◌<◌, List, [], ◌∷◌, ◌++◌, Option, Some, None, IfSome, IsSome, Result, Ok, Err, IfOk, IsOk, IfErr, ◌⊎◌, ⊎_elim, length, map, take, cond, refl, sym, ap, ◌∙◌, subst, arith, ne_eqb}
use Rattle.std.proofs.lemmas.List.{length-append}
use Rattle.std.proofs.lemmas.List.Elements.{All-append, All-push}
use Rattle.std.proofs.lemmas.Option.{IfSome_then}
use Rattle.std.specs.Prelude.{◌==◌}
use native.Mathlib.Decide.{ℕ_discrete}
use mathlib.Core.Logic.{dite}
use Rattle.pz_claims.specs.Holders.{Ending, Holding, Makes}
use Rattle.pz_claims.specs.Rule.{times, Once}
use Rattle.pz_crew.specs.Pieces.{pieces_at}
use Rattle.pz_crew.specs.Gates.{MayPassUpTo, MayPassIn, MayPassFor, MayPassAll, HasStop, IsPassed}
use Rattle.pz_crew.specs.Lane.{All as Token, Sends}
use Rattle.pz_crew.specs.Worked.{handed_back}
use Rattle.pz_crew.specs.Recorded.{Gathered, taken_of}
use Rattle.pz_crew.specs.Sent.{messages_of, messages_for}
use Rattle.pz_crew.specs.declared.fault.ReplayFault.{ReplayFault}
use Rattle.pz_crew.specs.declared.fault.ReplayFault.TheVariants.{GateClosed}
use Rattle.pz_crew.specs.declared.lane.End.{End}
use Rattle.pz_crew.specs.declared.lane.End.TheVariants as end
use Rattle.pz_crew.specs.declared.lane.Message.TheVariants as messages
use Rattle.pz_crew.specs.declared.recorder.Inbox.{Inbox}
use Rattle.pz_crew.specs.declared.work.Done.{Done}
use Rattle.pz_crew.specs.declared.work.Worked.{Worked}
use Rattle.pz_crew.proofs.Completing.{counts, once_yes}

pub none_passed : (passes : ℕ → ℕ → Type 0) (session : ℕ) → MayPassUpTo passes session 0
none_passed passes session item within = absurd (omega arith)

-- one item more may pass
pub one_passed : (passes : ℕ → ℕ → Type 0) (session count : ℕ) → MayPassUpTo passes session count → passes session count → MayPassUpTo passes session (count + 1)
one_passed passes session count before this item within =
    dite (ℕ_discrete item count)
    (λ same. subst (passes session) (sym same) this)
    (λ other. before item (omega arith))

pub passed_as : (passes : ℕ → ℕ → Type 0) (session count other : ℕ) → count ≡ other → MayPassUpTo passes session count → MayPassUpTo passes session other
passed_as passes session count other same h = subst (MayPassUpTo passes session) same h

-- no item is left: as many were shown as there are
pub all_shown : {T : Type 0} → (shown rest items : List T) (count : ℕ) → rest ≡ [] → shown ++ rest ≡ items → length shown ≡ count → count ≡ length items
all_shown shown rest items count none whole shown_are =
    let long : length (shown ++ rest) ≡ length shown + length rest = length-append shown rest in
    let empty : length rest ≡ 0 = ap length none in
    let same : length (shown ++ rest) ≡ length items = ap length whole in
    omega arith

-- the item that comes next is one of the session's
pub one_there : {T : Type 0} → (shown rest later items : List T) (item : T) (count : ℕ) → rest ≡ item ∷ later → shown ++ rest ≡ items → length shown ≡ count → count < length items
one_there shown rest later items item count next whole shown_are =
    let long : length (shown ++ rest) ≡ length shown + length rest = length-append shown rest in
    let some : length rest ≡ suc (length later) = ap length next in
    let same : length (shown ++ rest) ≡ length items = ap length whole in
    omega arith

pub memory_has_no_stop : {A : Type 0} → end.Memory ≡ end.GateClosed → A
memory_has_no_stop e = absurd (cc)

-- no session was sent yet
pub none_passed_for : {T : Type 0} → (passes : ℕ → ℕ → Type 0) (sessions : List (List T)) (numbers : List ℕ) → numbers ≡ [] → MayPassFor passes sessions numbers
none_passed_for passes sessions [] e = λ k d within. absurd (omega arith)
none_passed_for passes sessions (number ∷ numbers) e = absurd (cc)

-- one session more was sent
pub session_passed : {T : Type 0} → (passes : ℕ → ℕ → Type 0) (sessions : List (List T)) (seat same : Holding) (number : ℕ) → same ≡ record seat { numbers = seat.numbers ++ number ∷ [] }
    → MayPassFor passes sessions seat.numbers → MayPassIn passes sessions number → MayPassFor passes sessions same.numbers
session_passed passes sessions seat same number claimed before this = rw claimed (All-push (MayPassIn passes sessions) seat.numbers number before this)

-- a worker that ends within a session has sent what may pass
pub broke_off : {T : Type 0} → (passes : ℕ → ℕ → Type 0) (sessions : List (List T)) (numbers : List ℕ) (session count : ℕ) (before after : (Sends T)) (ended : End) (worked : (Worked T))
    → before.sent ≡ messages_for sessions numbers → after ≡ record before { sent = before.sent ++ take count (messages_of session (pieces_at sessions session)) }
    → MayPassFor passes sessions numbers → MayPassUpTo passes session count
    → worked.end ≡ ended → worked.ended ≡ None → IfSome worked.sent (λ all. all ≡ record { lane = after.lane; sent = after.sent ++ messages.Last ended ∷ [] })
    → IsPassed passes sessions worked
broke_off passes sessions numbers session count before after ended worked so_far part passed begun ends unended sent =
    record {
      finished = rw unended tt;
      broken = λ _. IfSome_then worked.sent sent (λ all is.
          record {
            whole = numbers;
            session = session;
            count = count;
            sends = ap (λ a. a.sent) is ∙ rw (ends, part, so_far) refl;
            passed = passed;
            begun = begun;
          });
    }

-- a worker that finds no number left has sent what may pass
pub sent_whole : {T : Type 0} → (passes : ℕ → ℕ → Type 0) (sessions : List (List T)) (seat : Holding) (ended : Ending) (worked : (Worked T))
    → ended.numbers ≡ seat.numbers → MayPassFor passes sessions seat.numbers → worked.end ≡ end.Finished → worked.ended ≡ Some ended → IsPassed passes sessions worked
sent_whole passes sessions seat ended worked numbers passed ends some =
    record {
      finished = rw some (subst (MayPassFor passes sessions) (sym numbers) passed);
      broken = λ other. absurd (other ends);
    }

pub finished_has_no_stop : {A : Type 0} (ended : End) → ended ≡ end.Finished → ended ≡ end.GateClosed → A
finished_has_no_stop ended is closed = absurd (cc)

-- where no worker is left to start, the numbers are those of before
pub kept_by : {T : Type 0} → (passes : ℕ → ℕ → Type 0) (sessions : List (List T)) (maker : Makes) (inboxes : List (Inbox T)) (kept_then : Option (List (List T))) (out : Result (Makes × List (List T)) ReplayFault)
    → IfOk out (λ made. (made.0 ≡ maker) × Gathered (map taken_of inboxes) made.1 × IfSome kept_then (λ s. length made.1 ≡ length s) × IsSome kept_then)
    → MayPassFor passes sessions maker.numbers → IfOk out (λ made. MayPassFor passes sessions made.0.numbers)
kept_by passes sessions maker inboxes kept_then (Err fault) done before = tt
kept_by passes sessions maker inboxes kept_then (Ok made) done before = subst (λ (m : Makes). MayPassFor passes sessions m.numbers) (sym done.0) before

-- the numbers of one worker more
pub settled_passed : {T : Type 0} → (passes : ℕ → ℕ → Type 0) (sessions : List (List T)) (first maker : Makes) (worked : (Worked T)) (below out : Result (Makes × List (List T)) ReplayFault)
    → first.numbers ≡ maker.numbers
    → (MayPassFor passes sessions first.numbers → IfOk below (λ made. MayPassFor passes sessions made.0.numbers))
    → IfOk out (λ made. IfOk below (λ before. IfSome worked.ended (λ ended. made.0.numbers ≡ before.0.numbers ++ ended.numbers) × IsSome worked.ended))
    → IfOk out (λ _. IsOk below) → IsPassed passes sessions worked → MayPassFor passes sessions maker.numbers → IfOk out (λ made. MayPassFor passes sessions made.0.numbers)
settled_passed passes sessions first maker worked below (Err fault) same under joined fine mine before = tt
settled_passed passes sessions first maker worked (Err fault) (Ok made) same under joined fine mine before = absurd (cc)
settled_passed passes sessions first maker worked (Ok was) (Ok made) same under joined fine mine before =
    joins worked.ended mine.finished joined.0 joined.1
  where
    so_far : MayPassFor passes sessions was.0.numbers
    so_far = under (subst (MayPassFor passes sessions) (sym same) before)

    joins : (e : Option Ending) → IfSome e (λ ended. MayPassFor passes sessions ended.numbers) → IfSome e (λ ended. made.0.numbers ≡ was.0.numbers ++ ended.numbers) → IsSome e → MayPassFor passes sessions made.0.numbers
    joins None p q r = absurd (cc)
    joins (Some ended) p q r = subst (MayPassFor passes sessions) (sym q) (All-append (MayPassIn passes sessions) was.0.numbers ended.numbers so_far p)

-- a gate was closed to a worker or to those below it
pub settled_stop : {T : Type 0} → (stops : ℕ → ℕ → Type 0) (sessions : List (List T)) (worked : (Worked T)) (below out : Result (Makes × List (List T)) ReplayFault)
    → (worked.end ≡ end.GateClosed → HasStop stops sessions) → (below ≡ Err GateClosed → HasStop stops sessions)
    → IfErr out (λ fault. fault ≡ GateClosed → (worked.end ≡ end.GateClosed) ⊎ (below ≡ Err GateClosed)) → out ≡ Err GateClosed → HasStop stops sessions
settled_stop {T = T} stops sessions worked below out mine others either is =
    ⊎_elim
    (λ (e : worked.end ≡ end.GateClosed). mine e)
    (λ (e : below ≡ Err GateClosed). others e)
    (subst (λ (o : Result (Makes × List (List T)) ReplayFault). IfErr o (λ fault. fault ≡ GateClosed → (worked.end ≡ end.GateClosed) ⊎ (below ≡ Err GateClosed))) is either refl)

-- a session whose number is held may pass
held : {T : Type 0} → (passes : ℕ → ℕ → Type 0) (sessions : List (List T)) (session : ℕ) (numbers : List ℕ) → times session numbers ≡ 1 → MayPassFor passes sessions numbers → MayPassIn passes sessions session
held passes sessions session [] one h = absurd (omega arith)
held passes sessions session (number ∷ numbers) one h =
    dite (ℕ_discrete number session)
    (λ same. subst (MayPassIn passes sessions) same (h 0 session (omega arith)))
    (λ other.
    let n = counts session number numbers in
    let none_here : cond (number == session) 1 0 < 1 = rw (ne_eqb number session other) (omega arith) in
    held passes sessions session numbers (omega arith) (λ k d within. h (suc k) d (omega arith)))

-- where each number is held once, every session may pass
pub all_passed : {T : Type 0} → (passes : ℕ → ℕ → Type 0) (sessions : List (List T)) (numbers : List ℕ) (total : ℕ) → total ≡ length sessions → Once total numbers → MayPassFor passes sessions numbers → MayPassAll passes sessions
all_passed passes sessions numbers total many once h session within =
    held passes sessions session numbers (once session ∙ once_yes session total (omega arith)) h

-- a worker that finishes its lane, whether or not that gives a token, has sent what may pass
pub passed_so : {T : Type 0} → (passes : ℕ → ℕ → Type 0) (sessions : List (List T)) (done : Done T) (sent : Option (Token T)) → IfSome sent (λ all. all ≡ record { lane = done.sender.lane; sent = done.sender.sent })
    → IsPassed passes sessions (handed_back done) → IsPassed passes sessions (record { end = done.end; ended = done.ended; sent = sent })
passed_so passes sessions done None is h = record { finished = h.finished; broken = λ _. tt }
passed_so {T = T} passes sessions done (Some all) is h = subst (λ (a : Token T). IsPassed passes sessions (record { end = done.end; ended = done.ended; sent = Some a })) (sym is) h
