-- Where the lists of numbers have each number once, what the lanes gave is each session's items.
use Rattle.std.proofs.Common.{◌≡◌, ◌≢◌, ℕ, zero, suc, ◌+◌, ◌<◌, ◌≤◌, List, [], ◌∷◌, ◌++◌, map, length, get_or, cond, refl, sym, ap, ◌∙◌, subst, arith, eq-eqb, ne_eqb}
use Rattle.std.proofs.lemmas.List.{append-nil, ext_get_or}
use Rattle.std.proofs.lemmas.List.Sums.{sum_by-cons}
use Rattle.std.specs.Prelude.{sum_by, ◌==◌}
use Rattle.std.proofs.lemmas.Bool.Decides.{nat_tests}
use native.Mathlib.Decide.{ℕ_discrete}
use mathlib.Core.Logic.{dite}
use Rattle.pz_claims.specs.Rule.{times, once_below}
use Rattle.pz_crew.specs.declared.lane.End.TheVariants.{Finished}
use Rattle.pz_crew.specs.declared.lane.Message.TheVariants.{Last}
use Rattle.pz_crew.specs.Pieces.{pieces_at}
use Rattle.pz_crew.specs.Sent.{messages_of, messages_for, sent_for}
use Rattle.pz_crew.specs.Recorded.{of_session, Gathered}
use Rattle.pz_crew.proofs.Gathering.{of_append}

of_own : {T : Type 0} → (k : ℕ) (xs : List T) → of_session k (messages_of k xs) ≡ xs
of_own k [] = refl
of_own {T = T} k (x ∷ xs) = rw (eq-eqb k k refl) (ap (λ (l : List T). x ∷ l) (of_own k xs))

of_others : {T : Type 0} → (k c : ℕ) (xs : List T) → c ≢ k → of_session k (messages_of c xs) ≡ []
of_others k c [] ne = refl
of_others k c (x ∷ xs) ne = rw (ne_eqb c k ne) (of_others k c xs ne)

pub counts : (k c : ℕ) (ks : List ℕ) → times k (c ∷ ks) ≡ cond (c == k) 1 0 + times k ks
counts k c ks = sum_by-cons (λ y. cond (y == k) 1 0) c ks

of_none : {T : Type 0} → (sessions : List (List T)) (k : ℕ) (ks : List ℕ) → times k ks ≡ 0 → of_session k (messages_for sessions ks) ≡ []
of_none sessions k [] e = refl
of_none {T = T} sessions k (c ∷ ks) e =
    dite (ℕ_discrete c k)
    (λ same. absurd (let n = counts k c ks in let one : 1 ≤ cond (c == k) 1 0 = rw (eq-eqb c k same) (omega arith) in omega arith))
    (λ ne.
    let n = counts k c ks in
    let more : of_session k (messages_for sessions ks) ≡ [] = of_none sessions k ks (omega arith) in
    of_append k (messages_of c (pieces_at sessions c)) (messages_for sessions ks) ∙ ap (λ (l : List T). l ++ of_session k (messages_for sessions ks)) (of_others k c (pieces_at sessions c) ne) ∙ more)

of_one : {T : Type 0} → (sessions : List (List T)) (k : ℕ) (ks : List ℕ) → times k ks ≡ 1 → of_session k (messages_for sessions ks) ≡ pieces_at sessions k
of_one sessions k [] e = absurd (omega arith)
of_one {T = T} sessions k (c ∷ ks) e =
    dite (ℕ_discrete c k)
    (λ same.
    let n = counts k c ks in
    let one : 1 ≤ cond (c == k) 1 0 = rw (eq-eqb c k same) (omega arith) in
    let more : of_session k (messages_for sessions ks) ≡ [] = of_none sessions k ks (omega arith) in
    of_append k (messages_of c (pieces_at sessions c)) (messages_for sessions ks) ∙ ap (λ (l : List T). of_session k (messages_of c (pieces_at sessions c)) ++ l) more ∙ append-nil (of_session k (messages_of c (pieces_at sessions c)))
    ∙ subst (λ (m : ℕ). of_session k (messages_of m (pieces_at sessions m)) ≡ pieces_at sessions k) (sym same) (of_own k (pieces_at sessions k)))
    (λ ne.
    let n = counts k c ks in
    let zero_here : cond (c == k) 1 0 < 1 = rw (ne_eqb c k ne) (omega arith) in
    let more : of_session k (messages_for sessions ks) ≡ pieces_at sessions k = of_one sessions k ks (omega arith) in
    of_append k (messages_of c (pieces_at sessions c)) (messages_for sessions ks) ∙ ap (λ (l : List T). l ++ of_session k (messages_for sessions ks)) (of_others k c (pieces_at sessions c) ne) ∙ more)

of_sent : {T : Type 0} → (sessions : List (List T)) (k : ℕ) (ks : List ℕ) → of_session k (sent_for sessions ks) ≡ of_session k (messages_for sessions ks)
of_sent sessions k ks = of_append k (messages_for sessions ks) (Last Finished ∷ []) ∙ append-nil (of_session k (messages_for sessions ks))

each_none : (k : ℕ) (lists : List (List ℕ)) → sum_by (times k) lists ≡ 0 → (j : ℕ) → times k (get_or lists j []) ≡ 0
each_none k [] e j = refl
each_none k (ns ∷ lists) e zero = omega (arith, sum_by-cons (times k) ns lists)
each_none k (ns ∷ lists) e (suc j) = let split = sum_by-cons (times k) ns lists in each_none k lists (omega arith) j

-- one list alone has the number, once
OneHolds : ℕ → List (List ℕ) → Type 0
OneHolds k lists = (i : ℕ) × (times k (get_or lists i []) ≡ 1) × ((j : ℕ) → j ≢ i → times k (get_or lists j []) ≡ 0)

first_holds : (k : ℕ) (ns : List ℕ) (lists : List (List ℕ)) → times k ns ≡ 1 → sum_by (times k) lists ≡ 0 → OneHolds k (ns ∷ lists)
unfolding OneHolds
first_holds k ns lists e none = (0, e, others)
  where
    others : (j : ℕ) → j ≢ 0 → times k (get_or (ns ∷ lists) j []) ≡ 0
    others zero ne = absurd (ne refl)
    others (suc j) ne = each_none k lists none j

later_holds : (k : ℕ) (ns : List ℕ) (lists : List (List ℕ)) → times k ns ≡ 0 → OneHolds k lists → OneHolds k (ns ∷ lists)
unfolding OneHolds
later_holds k ns lists e h = (suc h.0, h.1, others)
  where
    others : (j : ℕ) → j ≢ suc h.0 → times k (get_or (ns ∷ lists) j []) ≡ 0
    others zero ne = e
    others (suc j) ne = h.2 j (λ same. ne (ap suc same))

one_holder : (k : ℕ) (lists : List (List ℕ)) → sum_by (times k) lists ≡ 1 → OneHolds k lists
one_holder k [] e = absurd (omega arith)
one_holder k (ns ∷ lists) e =
    let split = sum_by-cons (times k) ns lists in
    dite (ℕ_discrete (times k ns) 0)
    (λ none. later_holds k ns lists none (one_holder k lists (omega arith)))
    (λ some_here. first_holds k ns lists (omega arith) (omega arith))

pub once_yes : (x n : ℕ) → x < n → once_below x n ≡ 1
once_yes x n h = grind (arith, nat_tests)

-- what the lane j has of the session k
lane_at : {T : Type 0} → (sessions : List (List T)) (k : ℕ) (lists : List (List ℕ)) (j : ℕ) → of_session k (get_or (map (sent_for sessions) lists) j []) ≡ of_session k (messages_for sessions (get_or lists j []))
lane_at sessions k [] j = refl
lane_at sessions k (ns ∷ lists) zero = of_sent sessions k ns
lane_at sessions k (ns ∷ lists) (suc j) = lane_at sessions k lists j

pub complete : {T : Type 0} → (sessions recorded : List (List T)) (lists : List (List ℕ)) → length recorded ≡ length sessions → Gathered (map (sent_for sessions) lists) recorded
    → ((k : ℕ) → sum_by (times k) lists ≡ once_below k (length sessions)) → recorded ≡ sessions
unfolding OneHolds
complete sessions recorded lists len g once =
    ext_get_or [] recorded sessions len (λ k h.
    let one = one_holder k lists (once k ∙ once_yes k (length sessions) (omega arith)) in
    g k one.0 h (λ j ne. lane_at sessions k lists j ∙ of_none sessions k (get_or lists j []) (one.2 j ne)) ∙ lane_at sessions k lists one.0 ∙ of_one sessions k (get_or lists one.0 []) one.1)
