-- Once all workers are joined, each session's items are recorded.
use Rattle.std.proofs.Common.{◌≡◌, ℕ, ◌<◌, ◌≤◌, List, [], ◌∷◌, ◌++◌, map, length, Result, Ok, Err, IfOk, IsErr, ◌⊎◌, inl, inr, ⊎_elim, refl, sym, ap, ◌∙◌, subst, arith}
use Rattle.pz_claims.specs.Holders.{Numbers, Makes}
use Rattle.pz_claims.specs.Rule.{times, once_below}
use Rattle.pz_crew.specs.declared.lane.Message.{Message}
use Rattle.pz_crew.specs.Sent.{sent_for}
use Rattle.pz_crew.specs.Recorded.{Gathered, taken_of, lane_of}
use Rattle.pz_crew.specs.Workers.{IsDone, IsAll}
use Rattle.pz_crew.specs.declared.recorder.Inbox.{Inbox}
use Rattle.pz_crew.specs.declared.fault.ReplayFault.{ReplayFault}
use Rattle.pz_crew.specs.declared.fault.ReplayFault.TheVariants.{Workers}
use Rattle.pz_crew.proofs.Completing.{complete}

no_inbox : {T : Type 0} → (inboxes : List (Inbox T)) → map lane_of inboxes ≡ [] → map taken_of inboxes ≡ []
no_inbox [] e = refl
no_inbox (d ∷ ds) e = absurd (cc)

pub finishes : {T : Type 0} → (sessions : List (List T)) (claims : Numbers) (workers : ℕ) (m : Makes) (inboxes : List (Inbox T)) (out : Result (Makes × List (List T)) ReplayFault) → map lane_of inboxes ≡ []
    → m.of ≡ claims → m.made ≡ 0 → m.joined ≡ 0 → m.numbers ≡ [] → claims.total ≡ length sessions → IfOk out (λ p. IsDone sessions m workers inboxes p.0 p.1) → IfOk out (λ p. IsAll sessions claims workers p.0 p.1)
finishes sessions claims workers m inboxes (Err f) none of made joined numbers total done = tt
finishes {T = T} sessions claims workers m inboxes (Ok p) none of made joined numbers total done =
    let lists = done.0 in
    let all : Gathered (map (sent_for sessions) lists) p.1 = subst (λ (ts : List (List (Message T))). Gathered (ts ++ map (sent_for sessions) lists) p.1) (no_inbox inboxes none) done.1.0 in
    let many : claims.total ≡ length sessions = total in (
      done.1.3 ∙ of,
      (let a = done.1.4 in omega arith),
      (let a = done.1.5 in omega arith),
      (λ once. complete sessions p.1 lists done.1.1 all (λ k.
          let a = done.1.2 k in
          let b : times k m.numbers ≡ 0 = ap (times k) numbers in
          let c = once k in
          let d : once_below k claims.total ≡ once_below k (length sessions) = ap (once_below k) many in
          omega arith)),
    )

-- the number of workers is refused
pub few_or_many : (workers most : ℕ) → (workers ≡ 0) ⊎ ((workers ≡ 0 → ⊥) × (most < workers)) → (workers ≡ 0) ⊎ (most < workers)
few_or_many workers most either = ⊎_elim (λ (e : workers ≡ 0). inl e) (λ (h : (workers ≡ 0 → ⊥) × (most < workers)). inr h.1) either

-- or it isn't, and so no such fault is answered
pub no_refusal : {A : Type 0} (workers most : ℕ) (out : Result A ReplayFault) → (workers ≡ 0 → ⊥) → workers ≤ most → (out ≡ Err Workers → ⊥)
    → (out ≡ Err Workers → (workers ≡ 0) ⊎ (most < workers)) × ((workers ≡ 0) ⊎ (most < workers) → out ≡ Err Workers)
no_refusal workers most out some few other =
    (λ e. absurd (other e), λ either. absurd (⊎_elim (λ (e : workers ≡ 0). some e) (λ (h : most < workers). over workers most few h) either))
  where
    over : (w m : ℕ) → w ≤ m → m < w → ⊥
    over w m h k = absurd (omega arith)

-- the fault of the workers is handed on
pub no_answer : {A E : Type 0} (P : A → Type 0) (out : Result A E) → IsErr out → IfOk out P
no_answer P (Ok x) h = absurd (cc)
no_answer P (Err f) h = tt

pub passed_on : {A B : Type 0} (fault e f : ReplayFault) (all : Result A ReplayFault) (out : Result B ReplayFault) → all ≡ Err e → out ≡ Err f → f ≡ e → (all ≡ Err fault → ⊥) → out ≡ Err fault → ⊥
passed_on fault e f all out was now same other is =
    let here : e ≡ fault = cc in
    other (was ∙ ap Err here)

-- so is which fault it is
pub handed_on : {A B : Type 0} (fault e f : ReplayFault) (all : Result A ReplayFault) (out : Result B ReplayFault) → all ≡ Err e → out ≡ Err f → f ≡ e → out ≡ Err fault → all ≡ Err fault
handed_on fault e f all out was now same is =
    let here : e ≡ fault = cc in
    was ∙ ap Err here

pub some_made : (made workers : ℕ) → made ≡ workers → (workers ≡ 0 → ⊥) → 0 < made
some_made made workers is some = positive made (λ none. some (sym is ∙ none))
  where
    positive : (n : ℕ) → (n ≡ 0 → ⊥) → 0 < n
    positive n h = grind arith

pub answered : {A : Type 0} (made : A) (fault : ReplayFault) → Ok made ≡ Err fault → ⊥
answered made fault e = cc
