-- Lists of messages, and what they say of a worker that broke off.
use Rattle.std.proofs.Common.{true≢false, ◌≡◌, ◌≢◌, ◌<◌, ◌+◌, ℕ, List, [], ◌∷◌, ◌++◌, All, IfSome, None, length, take, refl, sym, ap, ◌∙◌, subst, append_assoc, arith}
use Rattle.std.proofs.Math.Seq.{take-append-add}
use Rattle.std.proofs.lemmas.List.{append-nil, length-map, map-append, take_at}
use Rattle.std.proofs.lemmas.List.Elements.{All-push}
use Rattle.std.proofs.lemmas.Option.{IfSome_then}
use Rattle.std.specs.Prelude.{Option, Some}
use Rattle.pz_claims.specs.Holders.{Ending, Holding, Numbers}
use Rattle.pz_crew.specs.Pieces.{pieces_at}
use Rattle.pz_crew.specs.Lane.{All as Token, LaneId, Sends}
use Rattle.pz_crew.specs.Sent.{messages_of, messages_for, sent_for}
use Rattle.pz_crew.specs.Worked.{IsWorked, handed_back}
use Rattle.pz_crew.specs.declared.lane.End.{End}
use Rattle.pz_crew.specs.declared.lane.End.TheVariants.{Finished, Memory, GateClosed}
use Rattle.pz_crew.specs.declared.lane.Message.{Message}
use Rattle.pz_crew.specs.declared.lane.Message.TheVariants as messages
use Rattle.pz_crew.specs.declared.work.Done.{Done}
use Rattle.pz_crew.specs.declared.work.Worked.{Worked}

-- the items shown are the first of the session
pub first_messages : {T : Type 0} → (session : ℕ) (shown rest items : List T) → shown ++ rest ≡ items → messages_of session shown ≡ take (length shown) (messages_of session items)
first_messages {T = T} session shown rest items whole =
    sym (ap (λ xs. take (length shown) (messages_of session xs)) (sym whole)
    ∙ (ap (λ (ms : List (Message T)). take (length shown) ms) (map-append (messages.Piece session) shown rest)
    ∙ take_at (messages_of session shown) (messages_of session rest) (length shown) (length-map shown (messages.Piece session))))

-- nothing was sent yet
pub nothing_sent : {T : Type 0} → (session : ℕ) (start : (Sends T)) → start ≡ record start { sent = start.sent ++ messages_of session [] }
nothing_sent {T = T} session start = ap (λ (ms : List (Message T)). record start { sent = ms }) (sym (append-nil start.sent))

-- no item is left: all were sent
pub all_sent : {T : Type 0} → (session : ℕ) (start now : (Sends T)) (shown rest items : List T) → rest ≡ [] → shown ++ rest ≡ items → now ≡ record start { sent = start.sent ++ messages_of session shown } → now ≡ record start { sent = start.sent ++ messages_of session items }
all_sent {T = T} session start now shown rest items none whole so_far =
    so_far ∙ ap (λ (xs : List T). record start { sent = start.sent ++ messages_of session xs }) (sym (append-nil shown) ∙ ap (λ (xs : List T). shown ++ xs) (sym none) ∙ whole)

pub memory_is_not_finished : Memory ≡ Finished → ⊥
memory_is_not_finished e = cc

pub closed_is_not_finished : GateClosed ≡ Finished → ⊥
closed_is_not_finished e = cc

-- one item more was sent
pub sends_more : {T : Type 0} → (session : ℕ) (start before after : (Sends T)) (shown : List T) (item : T)
    → before ≡ record start { sent = start.sent ++ messages_of session shown } → after ≡ record before { sent = before.sent ++ messages.Piece session item ∷ [] }
    → after ≡ record start { sent = start.sent ++ messages_of session (shown ++ item ∷ []) }
sends_more {T = T} session start before after shown item so_far more =
    rw (more, so_far, map-append (messages.Piece session) shown (item ∷ [])) (ap (λ (ms : List (Message T)). record start { sent = ms }) (append_assoc start.sent (messages_of session shown) (messages.Piece session item ∷ [])))

pub messages_for_push : {T : Type 0} → (sessions : List (List T)) (numbers : List ℕ) (number : ℕ) → messages_for sessions (numbers ++ number ∷ []) ≡ messages_for sessions numbers ++ messages_of number (pieces_at sessions number)
messages_for_push sessions [] number = append-nil (messages_of number (pieces_at sessions number))
messages_for_push {T = T} sessions (first ∷ later) number =
    ap (λ (l : List (Message T)). messages_of first (pieces_at sessions first) ++ l) (messages_for_push sessions later number)
    ∙ sym (append_assoc (messages_of first (pieces_at sessions first)) (messages_for sessions later) (messages_of number (pieces_at sessions number)))

-- all messages of some sessions and the first messages of one more are the first messages of them all
take_of : {T : Type 0} → (sessions : List (List T)) (numbers : List ℕ) (number count : ℕ)
    → take (length (messages_for sessions numbers) + count) (messages_for sessions (numbers ++ number ∷ [])) ≡ messages_for sessions numbers ++ take count (messages_of number (pieces_at sessions number))
take_of {T = T} sessions numbers number count =
    ap (λ (ms : List (Message T)). take (length (messages_for sessions numbers) + count) ms) (messages_for_push sessions numbers number)
    ∙ take-append-add (messages_for sessions numbers) (messages_of number (pieces_at sessions number)) count

-- one session more was sent
pub session_more : {T : Type 0} → (sessions : List (List T)) (seat same : Holding) (number : ℕ) (before after : (Sends T))
    → same ≡ record seat { numbers = seat.numbers ++ number ∷ [] }
    → before.sent ≡ messages_for sessions seat.numbers → after ≡ record before { sent = before.sent ++ messages_of number (pieces_at sessions number) }
    → after.sent ≡ messages_for sessions same.numbers
session_more sessions seat same number before after claimed so_far more =
    rw (claimed, more, so_far, messages_for_push sessions seat.numbers number) refl

pub below_more : (claims : Numbers) (seat same : Holding) (number : ℕ) → same ≡ record seat { numbers = seat.numbers ++ number ∷ [] }
    → All (λ k. k < claims.total) seat.numbers → seat.of ≡ claims → number < seat.of.total → All (λ k. k < claims.total) same.numbers
below_more claims seat same number claimed below table within =
    rw claimed (All-push (λ k. k < claims.total) seat.numbers number below (rw (← table) within))

-- a worker that ends within a session breaks off
pub breaks_off : {T : Type 0} → (claims : Numbers) (sessions : List (List T)) (lane : LaneId) (seat same : Holding) (number count : ℕ) (before after : (Sends T)) (end : End) (worked : (Worked T))
    → seat.of ≡ claims → All (λ k. k < claims.total) seat.numbers → before.lane ≡ lane → before.sent ≡ messages_for sessions seat.numbers
    → number < seat.of.total → same ≡ record seat { numbers = seat.numbers ++ number ∷ [] }
    → after ≡ record before { sent = before.sent ++ take count (messages_of number (pieces_at sessions number)) } → end ≢ Finished
    → worked.end ≡ end → worked.ended ≡ None → IfSome worked.sent (λ all. all ≡ record { lane = after.lane; sent = after.sent ++ messages.Last end ∷ [] })
    → IsWorked claims sessions lane worked
breaks_off claims sessions lane seat same number count before after end worked table below here so_far within claimed part broken ends unended sent =
    record {
      token = IfSome_then worked.sent sent (λ all is. ap (λ a. a.lane) is ∙ (ap (λ s. s.lane) part ∙ here));
      seat = λ finished. absurd (broken (sym ends ∙ finished));
      finished = rw unended (λ some. absurd (true≢false (sym some)));
      sends = rw unended tt;
      breaks = λ _. IfSome_then worked.sent sent (λ all is.
          record {
            numbers = same.numbers;
            below = below_more claims seat same number claimed below table within;
            count = length (messages_for sessions seat.numbers) + count;
            sends = ap (λ a. a.sent) is ∙ rw (ends, part, so_far, claimed, take_of sessions seat.numbers number count) refl;
          });
    }

none_below : (n : ℕ) (numbers : List ℕ) → numbers ≡ [] → All (λ k. k < n) numbers
none_below n [] e = λ k d within. absurd (omega arith)
none_below n (number ∷ numbers) e = absurd (cc)

-- a worker begins with nothing
pub begins : {T : Type 0} → (claims : Numbers) (sessions : List (List T)) (seat : Holding) (sent : List (Message T)) → seat.numbers ≡ [] → sent ≡ [] → All (λ k. k < claims.total) seat.numbers × (sent ≡ messages_for sessions seat.numbers)
begins claims sessions seat sent none nothing = (none_below claims.total seat.numbers none, nothing ∙ sym (ap (messages_for sessions) none))

pub case_there : (claims : Numbers) (many : ℕ) (seat : Holding) (number : ℕ) → number < seat.of.total → seat.of ≡ claims → claims.total ≡ many → number < many
case_there claims many seat number within table whole = subst (λ n. number < n) (ap (λ (c : Numbers). c.total) table ∙ whole) within

-- a worker that finds no number left has sent all
pub ends_whole : {T : Type 0} → (claims : Numbers) (sessions : List (List T)) (lane : LaneId) (seat : Holding) (ended : Ending) (before : (Sends T)) (worked : (Worked T))
    → seat.of ≡ claims → before.lane ≡ lane → before.sent ≡ messages_for sessions seat.numbers → ended.of ≡ seat.of → ended.numbers ≡ seat.numbers
    → worked.end ≡ Finished → worked.ended ≡ Some ended → IfSome worked.sent (λ all. all ≡ record { lane = before.lane; sent = before.sent ++ messages.Last Finished ∷ [] })
    → IsWorked claims sessions lane worked
ends_whole claims sessions lane seat ended before worked table here so_far of numbers ends some sent =
    record {
      token = IfSome_then worked.sent sent (λ all is. ap (λ a. a.lane) is ∙ here);
      seat = λ _. rw some refl;
      finished = λ _. ends;
      sends = rw some (of ∙ table, IfSome_then worked.sent sent (λ all is. ap (λ a. a.sent) is ∙ rw (so_far, numbers) refl));
      breaks = λ other. absurd (other ends);
    }

-- a worker that finishes its lane, whether or not that gives a token, has worked
pub worked_so : {T : Type 0} → (claims : Numbers) (sessions : List (List T)) (lane : LaneId) (done : Done T) (sent : Option (Token T)) → IfSome sent (λ all. all ≡ record { lane = done.sender.lane; sent = done.sender.sent })
    → IsWorked claims sessions lane (handed_back done) → IsWorked claims sessions lane (record { end = done.end; ended = done.ended; sent = sent })
worked_so claims sessions lane done None is h = record { token = tt; seat = h.seat; finished = h.finished; sends = of_table done.ended h.sends; breaks = λ _. tt }
  where
    of_table : (e : Option Ending) → IfSome e (λ ended. (ended.of ≡ claims) × (done.sender.sent ≡ sent_for sessions ended.numbers)) → IfSome e (λ ended. (ended.of ≡ claims) × Unit {0})
    of_table None s = tt
    of_table (Some ended) s = (s.0, tt)
worked_so {T = T} claims sessions lane done (Some all) is h = subst (λ (a : Token T). IsWorked claims sessions lane (record { end = done.end; ended = done.ended; sent = Some a })) (sym is) h
