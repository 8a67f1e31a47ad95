-- What a worker more adds to what the workers below it make.
use Rattle.std.proofs.Common.{◌≡◌, ℕ, zero, suc, ◌+◌, ◌-◌, ◌<◌, ◌≤◌, List, [], ◌∷◌, ◌++◌, map, length, get_or, cond, drop, take, Some, None, Option, Result, Ok, Err, All, IfSome, IfNone, IsSome, IfOk, IfErr, IsOk, refl, sym, ap, ◌∙◌, subst, arith}
use Rattle.std.specs.Prelude.{sum_by, ◌==◌}
use Rattle.std.proofs.lemmas.List.{append-nil, length-append, length-map, map-append, take_at}
use Rattle.std.proofs.lemmas.List.Elements.{All-append, All-pop}
use Rattle.std.proofs.lemmas.List.Sums.{sum_by-cons, sum_by-append}
use Rattle.std.proofs.Math.Seq.{append_snoc}
use Rattle.pz_claims.specs.Holders.{Numbers, Makes}
use Rattle.pz_claims.specs.Rule.{times}
use Rattle.pz_claims.specs.declared.limits.TheConstants.{MOST_SEATS}
use Rattle.pz_crew.specs.Lane.{LaneId}
use Rattle.pz_crew.specs.declared.lane.End.{End}
use Rattle.pz_crew.specs.declared.lane.Message.{Message}
use Rattle.pz_crew.specs.declared.lane.Message.TheVariants.{Last}
use Rattle.pz_crew.specs.Sent.{sent_for}
use Rattle.pz_crew.specs.Recorded.{of_session, Gathered, taken_of, lane_of, HasEnded, IsAsLong, IsHonest, IsRecorded}
use Rattle.pz_crew.specs.Worked.{IsWorked}
use Rattle.pz_crew.specs.Workers.{IsDone, IsSettled, IsOpened}
use Rattle.pz_crew.specs.declared.recorder.Inbox.{Inbox}
use Rattle.pz_crew.specs.declared.work.Worked.{Worked}
use Rattle.pz_crew.specs.declared.fault.ReplayFault.{ReplayFault}
use Rattle.pz_crew.specs.declared.fault.ReplayFault.TheVariants.{Memory, Workers, GateClosed, LaneLost}

get_or_snoc : {T : Type 0} → (ts : List (List (Message T))) (j : ℕ) → get_or (ts ++ [] ∷ []) j [] ≡ get_or ts j []
get_or_snoc [] zero = refl
get_or_snoc [] (suc j) = refl
get_or_snoc (t ∷ ts) zero = refl
get_or_snoc (t ∷ ts) (suc j) = get_or_snoc ts j

gathered_snoc : {T : Type 0} → (ts : List (List (Message T))) (r : List (List T)) → Gathered ts r → Gathered (ts ++ [] ∷ []) r
gathered_snoc ts r g k i h alone = g k i h (λ j ne. ap (of_session k) (sym (get_or_snoc ts j)) ∙ alone j ne) ∙ ap (of_session k) (sym (get_or_snoc ts i))

gathered_if : {T : Type 0} → (ts : List (List (Message T))) (r : Option (List (List T))) → IfSome r (Gathered ts) → IfSome r (Gathered (ts ++ [] ∷ []))
gathered_if ts None g = tt
gathered_if ts (Some r) g = gathered_snoc ts r g

alone : {T : Type 0} → (P : (Inbox T) → Type 0) (d : (Inbox T)) → P d → All P (d ∷ [])
alone P d h zero e lt = h
alone P d h (suc k) e lt = absurd (omega arith)

fresh_honest : {T : Type 0} → (d : (Inbox T)) → d.end ≡ None → IsHonest d
fresh_honest {T = T} d e = subst (λ (x : Option End). IfSome x (λ y. (front : List (Message T)) × (taken_of d ≡ front ++ Last y ∷ []))) (sym e) tt

pub opens : {T : Type 0} → (before after : List (Inbox T)) (lane : LaneId) (r : Option (List (List T))) → IsOpened before after lane → IsRecorded before r → IsRecorded after r
opens {T = T} before after lane r o h =
    let d = o.0 in
    let is : map taken_of after ≡ map taken_of before ++ [] ∷ [] = ap (map taken_of) o.1 ∙ map-append taken_of before (d ∷ []) ∙ ap (λ (t : List (Message T)). map taken_of before ++ t ∷ []) o.2 in
    record {
      gathered = subst (λ (ts : List (List (Message T))). IfSome r (Gathered ts)) (sym is) (gathered_if (map taken_of before) r h.gathered);
      honest = subst (All IsHonest) (sym o.1) (All-append IsHonest before (d ∷ []) h.honest (alone IsHonest d (fresh_honest d o.3)));
    }

snoc_last : {X : Type 0} (xs ys : List X) (x y : X) → xs ++ x ∷ [] ≡ ys ++ y ∷ [] → x ≡ y
snoc_last [] [] x y e = cc
snoc_last [] (z ∷ []) x y e = absurd (cc)
snoc_last [] (z ∷ w ∷ ys) x y e = absurd (cc)
snoc_last (z ∷ []) [] x y e = absurd (cc)
snoc_last (z ∷ w ∷ xs) [] x y e = absurd (cc)
snoc_last (z ∷ xs) (w ∷ ys) x y e = snoc_last xs ys x y (let t : xs ++ x ∷ [] ≡ ys ++ y ∷ [] = cc in t)

pub last_lane : {T : Type 0} → (before after inboxes rest : List (Inbox T)) (inbox : (Inbox T)) (lane : LaneId) → IsOpened before after lane → map lane_of inboxes ≡ map lane_of after → inboxes ≡ rest ++ inbox ∷ [] → lane_of inbox ≡ lane
last_lane before after inboxes rest inbox lane o same is =
    snoc_last (map lane_of rest) (map lane_of before) (lane_of inbox) (lane_of o.0) (sym (map-append lane_of rest (inbox ∷ [])) ∙ ap (map lane_of) (sym is) ∙ same ∙ ap (map lane_of) o.1 ∙ map-append lane_of before (o.0 ∷ [])) ∙ o.4

-- a worker worked on the lane whose other end is at the inbox
pub worked_on : {T : Type 0} → (sessions : List (List T)) (claims : Numbers) (l sender m : LaneId) (w : Worked T) → l ≡ sender → m ≡ sender → IsWorked claims sessions l w → IsWorked claims sessions m w
worked_on sessions claims l sender m w p q h = subst (λ lane. IsWorked claims sessions lane w) (p ∙ sym q) h

pub none_left : {T : Type 0} → (sessions : List (List T)) (m : Makes) (left : ℕ) (inboxes : List (Inbox T)) (kept_then : Option (List (List T))) (out : Result (Makes × List (List T)) ReplayFault) → left ≡ 0
    → IfOk out (λ p. (p.0 ≡ m) × Gathered (map taken_of inboxes) p.1 × IfSome kept_then (λ r. length p.1 ≡ length r) × IsSome kept_then) → IfSome kept_then (λ r. length r ≡ length sessions) → IfOk out (λ p. IsDone sessions m left inboxes p.0 p.1)
none_left sessions m left inboxes kept_then (Err f) z h l = tt
none_left sessions m left inboxes None (Ok p) z h l = absurd (cc)
none_left {T = T} sessions m left inboxes (Some r) (Ok p) z h l = (
  [],
  (
    subst (λ (ts : List (List (Message T))). Gathered ts p.1) (sym (append-nil (map taken_of inboxes))) h.1,
    h.2 ∙ l,
    (λ k. let same : times k p.0.numbers ≡ times k m.numbers = ap (λ (n : Makes). times k n.numbers) h.0 in omega arith),
    ap (λ (n : Makes). n.of) h.0,
    (let same : p.0.made ≡ m.made = ap (λ (n : Makes). n.made) h.0 in omega arith),
    (let same : p.0.joined ≡ m.joined = ap (λ (n : Makes). n.joined) h.0 in omega arith),
  ),
)

one_more : {T : Type 0} → (sessions : List (List T)) (m m1 : Makes) (left : ℕ) (inboxes rest : List (Inbox T)) (inbox : (Inbox T)) (q p : Makes × List (List T)) → m1 ≡ record m { made = m.made + 1 } → 0 < left → inboxes ≡ rest ++ inbox ∷ []
    → IsDone sessions m1 (left - 1) inboxes q.0 q.1 → IsSettled sessions inbox q.0 q.1 p.0 p.1 → IsDone sessions m left rest p.0 p.1
one_more {T = T} sessions m m1 left inboxes rest inbox q p first some_left is done settled =
    let lists = done.0 in
    let ks = settled.1.0 in
    let now = settled.1.1 in
    let took = settled.1.2 in
    let lanes : map taken_of inboxes ++ map (sent_for sessions) lists ≡ map taken_of rest ++ map (sent_for sessions) (ks ∷ lists) =
    ap (λ (ds : List (Inbox T)). map taken_of ds ++ map (sent_for sessions) lists) is ∙ ap (λ (ts : List (List (Message T))). ts ++ map (sent_for sessions) lists) (map-append taken_of rest (inbox ∷ [])) ∙ append_snoc (map taken_of rest) (taken_of inbox) (map (sent_for sessions) lists)
    ∙ ap (λ (t : List (Message T)). map taken_of rest ++ t ∷ map (sent_for sessions) lists) took in
    let before : (k : ℕ) → times k q.0.numbers ≡ times k m.numbers + sum_by (times k) lists = λ k. done.1.2 k ∙ ap (λ (n : Makes). times k n.numbers + sum_by (times k) lists) first in (
      ks ∷ lists,
      (
        subst (λ (ts : List (List (Message T))). Gathered ts p.1) lanes (subst (Gathered (map taken_of inboxes ++ map (sent_for sessions) lists)) (sym settled.0) done.1.0),
        ap length settled.0 ∙ done.1.1,
        (λ k.
            let a = before k in
            let b : times k p.0.numbers ≡ times k (q.0.numbers ++ ks) = ap (λ (n : Makes). times k n.numbers) now in
            let c = sum_by-append (λ y. cond (y == k) 1 0) q.0.numbers ks in
            let d = sum_by-cons (times k) ks lists in
            omega arith),
        ap (λ (n : Makes). n.of) now ∙ done.1.3 ∙ ap (λ (n : Makes). n.of) first,
        (let a : p.0.made ≡ q.0.made = ap (λ (n : Makes). n.made) now in let b : m1.made ≡ m.made + 1 = ap (λ (n : Makes). n.made) first in let c = done.1.4 in omega arith),
        (let a : p.0.joined ≡ q.0.joined + 1 = ap (λ (n : Makes). n.joined) now in let b : m1.joined ≡ m.joined = ap (λ (n : Makes). n.joined) first in let c = done.1.5 in omega arith),
      ),
    )

pub settles : {T : Type 0} → (sessions : List (List T)) (m m1 : Makes) (left : ℕ) (inboxes rest : List (Inbox T)) (inbox : (Inbox T)) (below out : Result (Makes × List (List T)) ReplayFault) → m1 ≡ record m { made = m.made + 1 } → 0 < left → inboxes ≡ rest ++ inbox ∷ []
    → IfOk below (λ q. IsDone sessions m1 (left - 1) inboxes q.0 q.1) → IfOk out (λ p. IfOk below (λ q. IsSettled sessions inbox q.0 q.1 p.0 p.1)) → IfOk out (λ _. IsOk below) → IfOk out (λ p. IsDone sessions m left rest p.0 p.1)
settles sessions m m1 left inboxes rest inbox below (Err f) first some_left is done settled fine = tt
settles sessions m m1 left inboxes rest inbox (Err f) (Ok p) first some_left is done settled fine = absurd (cc)
settles sessions m m1 left inboxes rest inbox (Ok q) (Ok p) first some_left is done settled fine = one_more sessions m m1 left inboxes rest inbox q p first some_left is done settled

-- where no lane was opened, the inboxes are as they were
pub unopened : {T : Type 0} → {X : Type 0} (out : Option X) (before after : List (Inbox T)) → out ≡ None → IfNone out (after ≡ before) → after ≡ before
unopened out before after is same = subst (λ o. IfNone o (after ≡ before)) is same

pub recorded_as : {T : Type 0} → (before after : List (Inbox T)) (r : Option (List (List T))) → after ≡ before → IsRecorded before r → IsRecorded after r
recorded_as {T = T} before after r same h = subst (λ (ds : List (Inbox T)). IsRecorded ds r) (sym same) h

-- where the inbox that was opened is taken off again, they are so too
pub taken_off : {T : Type 0} → (before after popped : List (Inbox T)) (lane : LaneId) (many : ℕ) → IsOpened before after lane → many ≡ length after → popped ≡ take (many - 1) after → popped ≡ before
taken_off {T = T} before after popped lane many o counted is =
    is ∙ ap (λ (n : ℕ). take (n - 1) after) counted ∙ ap (λ (ds : List (Inbox T)). take (length ds - 1) ds) o.1 ∙ take_at before (o.0 ∷ []) (length (before ++ o.0 ∷ []) - 1) (omega (arith, length-append before (o.0 ∷ [])))

snoc_front : {X : Type 0} (xs ys : List X) (x y : X) → xs ++ x ∷ [] ≡ ys ++ y ∷ [] → xs ≡ ys
snoc_front [] [] x y e = refl
snoc_front [] (z ∷ []) x y e = absurd (cc)
snoc_front [] (z ∷ w ∷ ys) x y e = absurd (cc)
snoc_front (z ∷ []) [] x y e = absurd (cc)
snoc_front (z ∷ w ∷ xs) [] x y e = absurd (cc)
snoc_front (z ∷ xs) (w ∷ ys) x y e =
    let t : xs ++ x ∷ [] ≡ ys ++ y ∷ [] = cc in
    let front : xs ≡ ys = snoc_front xs ys x y t in
    let first : z ≡ w = cc in
    cc

-- the lanes below the one that was opened are those of before
pub lanes_left : {T : Type 0} → (before after inboxes rest : List (Inbox T)) (inbox : (Inbox T)) (lane : LaneId) → IsOpened before after lane → map lane_of inboxes ≡ map lane_of after → inboxes ≡ rest ++ inbox ∷ [] → map lane_of rest ≡ map lane_of before
lanes_left before after inboxes rest inbox lane o same is =
    snoc_front (map lane_of rest) (map lane_of before) (lane_of inbox) (lane_of o.0) (sym (map-append lane_of rest (inbox ∷ [])) ∙ ap (map lane_of) (sym is) ∙ same ∙ ap (map lane_of) o.1 ∙ map-append lane_of before (o.0 ∷ []))

pub one_fewer : (made left : ℕ) → made + left ≤ MOST_SEATS → (left ≡ 0 → ⊥) → made < MOST_SEATS
one_fewer made zero few some_left = absurd (some_left refl)
one_fewer made (suc left) few some_left = omega arith

pub some_left : (left : ℕ) → (left ≡ 0 → ⊥) → 1 ≤ left
some_left zero h = absurd (h refl)
some_left (suc left) h = omega arith

-- the maker of the workers that are left
pub moved_maker : (claims : Numbers) (m m1 : Makes) (left : ℕ) → m1 ≡ record m { made = m.made + 1 } → (m.of ≡ claims) × (m.made + left ≤ MOST_SEATS) → (left ≡ 0 → ⊥) → (m1.of ≡ claims) × (m1.made + (left - 1) ≤ MOST_SEATS)
moved_maker claims m m1 zero first h some = absurd (some refl)
moved_maker claims m m1 (suc left) first h some = (
  ap (λ (n : Makes). n.of) first ∙ h.0,
  (let made : m1.made ≡ m.made + 1 = ap (λ (n : Makes). n.made) first in let few : m.made + suc left ≤ MOST_SEATS = h.1 in omega arith),
)

pub made_of : {T : Type 0} → (sessions : List (List T)) (claims : Numbers) (m m1 : Makes) (left : ℕ) (inboxes : List (Inbox T)) (below : Result (Makes × List (List T)) ReplayFault) → m1 ≡ record m { made = m.made + 1 } → m.of ≡ claims
    → IfOk below (λ q. IsDone sessions m1 left inboxes q.0 q.1) → IfOk below (λ q. q.0.of ≡ claims)
made_of sessions claims m m1 left inboxes (Err f) first of done = tt
made_of sessions claims m m1 left inboxes (Ok q) first of done = done.1.3 ∙ ap (λ (n : Makes). n.of) first ∙ of

-- what is known of all inboxes is known of the last, and of the others
pub last_ended : {T : Type 0} → (inboxes rest : List (Inbox T)) (inbox : (Inbox T)) → inboxes ≡ rest ++ inbox ∷ [] → All IsHonest inboxes × All HasEnded inboxes → IsHonest inbox × HasEnded inbox
last_ended inboxes rest inbox is h = ((All-pop IsHonest inboxes rest (Some inbox) is h.0).1, (All-pop HasEnded inboxes rest (Some inbox) is h.1).1)

pub others_ended : {T : Type 0} → (inboxes rest : List (Inbox T)) (inbox : (Inbox T)) → inboxes ≡ rest ++ inbox ∷ [] → All IsHonest inboxes × All HasEnded inboxes → All IsHonest rest × All HasEnded rest
others_ended inboxes rest inbox is h = ((All-pop IsHonest inboxes rest (Some inbox) is h.0).0, (All-pop HasEnded inboxes rest (Some inbox) is h.1).0)

-- a refusal by want of memory is no other
only_memory : {A : Type 0} (fault : ReplayFault) → (fault ≡ Memory → ⊥) → (out : Result A ReplayFault) → IfErr out (λ f. f ≡ Memory) → out ≡ Err fault → ⊥
only_memory fault other out h is = other (subst (λ o. IfErr o (λ f. f ≡ Memory)) is h)

pub not_workers : {A : Type 0} (out : Result A ReplayFault) → IfErr out (λ f. f ≡ Memory) → out ≡ Err Workers → ⊥
not_workers out h is = only_memory Workers (λ (e : Workers ≡ Memory). cc) out h is

pub not_closed : {A : Type 0} (out : Result A ReplayFault) → IfErr out (λ f. f ≡ Memory) → out ≡ Err GateClosed → ⊥
not_closed out h is = only_memory GateClosed (λ (e : GateClosed ≡ Memory). cc) out h is

pub not_lost : {A : Type 0} (out : Result A ReplayFault) → IfErr out (λ f. f ≡ Memory) → out ≡ Err LaneLost → ⊥
not_lost out h is = only_memory LaneLost (λ (e : LaneLost ≡ Memory). cc) out h is

-- what was lent to the recorder, and came back as it is now, is all that there is
pub all_back : {T : Type 0} → (many : ℕ) (old lent new : List (Inbox T)) → many ≡ length old → lent ≡ old → map lane_of new ≡ map lane_of lent → take many (new ++ drop (length new) old) ≡ new
all_back many old lent new counted same lanes =
    let long : length new ≡ length old = sym (length-map new lane_of) ∙ ap length lanes ∙ length-map lent lane_of ∙ ap length same in
    take_at new (drop (length new) old) many (long ∙ sym counted)

pub ended_as : {T : Type 0} → (before after : List (Inbox T)) → after ≡ before → All IsHonest before → All HasEnded before → All IsHonest after × All HasEnded after
ended_as {T = T} before after same honest ended = subst (λ (ds : List (Inbox T)). All IsHonest ds × All HasEnded ds) (sym same) (honest, ended)

pub gathered_as : {T : Type 0} → (before after : List (Inbox T)) (was now : Option (List (List T))) (r : List (List T)) → after ≡ before → now ≡ Some r → IsRecorded before now → IsAsLong was now
    → Gathered (map taken_of after) r × IfSome was (λ s. length r ≡ length s) × IsSome was
gathered_as {T = T} before after was now r same is h long = (
  subst (λ (ds : List (Inbox T)). Gathered (map taken_of ds) r) (sym same) (subst (λ (o : Option (List (List T))). IfSome o (Gathered (map taken_of before))) is h.gathered),
  as_long.0,
  as_long.1,
)
  where
    as_long : IsAsLong was (Some r)
    as_long = subst (λ (o : Option (List (List T))). IsAsLong was o) is long

-- an inbox is there, since one was opened
pub one_there : {T : Type 0} → (before after inboxes : List (Inbox T)) (lane : LaneId) → IsOpened before after lane → map lane_of inboxes ≡ map lane_of after → length inboxes ≡ 0 → ⊥
one_there before after inboxes lane o same none =
    let long : length inboxes ≡ length after = sym (length-map inboxes lane_of) ∙ ap length same ∙ length-map after lane_of in
    not_zero (length (before ++ o.0 ∷ [])) (length before) (length-append before (o.0 ∷ [])) (sym (ap length o.1) ∙ sym long ∙ none)
  where
    not_zero : (n k : ℕ) → n ≡ k + 1 → n ≡ 0 → ⊥
    not_zero n k e z = absurd (omega arith)
