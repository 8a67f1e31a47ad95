-- A visit of one inbox keeps what holds of all.
use Rattle.std.proofs.Common.{◌≡◌, ℕ, ◌+◌, ◌<◌, List, [], ◌∷◌, ◌++◌, map, length, get_or, set, Some, None, Option, IfSome, refl, sym, ap, ◌∙◌, subst, ⊎_elim, arith}
use Rattle.std.proofs.lemmas.List.{length-map, map-set, get_or-map, set-get_or, get_or-set_same, get_or-set_other}
use native.Mathlib.Decide.{ℕ_discrete}
use mathlib.Core.Logic.{dite}
use Rattle.std.proofs.lemmas.List.Elements.{All-set}
use Rattle.pz_crew.specs.declared.lane.End.{End}
use Rattle.pz_crew.specs.declared.lane.Message.{Message}
use Rattle.pz_crew.specs.declared.lane.Message.TheVariants as messages
use Rattle.pz_crew.specs.Recorded.{Gathered, taken_of, lane_of, end_after, IsHonest, HasEnded, HasKept, IsVisited, IsRecorded, IsAsLong, GoesOn}
use Rattle.pz_crew.specs.declared.recorder.Inbox.{Inbox}
use Rattle.pz_crew.proofs.Gathering.{gathers, length_kept}

end_of : {T : Type 0} → (t : List (Message T)) (m : (Message T)) → IfSome (end_after m) (λ e. (front : List (Message T)) × (t ++ m ∷ [] ≡ front ++ messages.Last e ∷ []))
end_of t (messages.Piece k x) = tt
end_of t (messages.Last e) = (t, refl)

honest_on : {T : Type 0} → (a b : (Inbox T)) (r s : Option (List (List T))) → IsVisited a b r s → IsHonest a → IsHonest b
honest_on {T = T} a b r s v old =
    let P : List (Message T) × Option End → Type 0 = λ (p : List (Message T) × Option End). IfSome p.1 (λ e. (front : List (Message T)) × (p.0 ≡ front ++ messages.Last e ∷ [])) in
    ⊎_elim
    (λ (same : (taken_of b ≡ taken_of a) × (b.end ≡ a.end) × (s ≡ r)). subst P (λ i. (sym same.0 i, sym same.1 i)) old)
    (λ (took : (m : (Message T)) × (taken_of b ≡ taken_of a ++ m ∷ []) × (b.end ≡ end_after m) × HasKept m r s). subst P (λ i. (sym took.1 i, sym took.2 i)) (end_of (taken_of a) took.0))
    v

gathers_on : {T : Type 0} → (lanes : List (List (Message T))) (i : ℕ) (m : (Message T)) → i < length lanes → (r s : Option (List (List T))) → IfSome r (Gathered lanes) → HasKept m r s → IfSome s (Gathered (set lanes i (get_or lanes i [] ++ m ∷ [])))
gathers_on lanes i m here r None g h = tt
gathers_on lanes i m here None (Some t) g h = absurd (cc)
gathers_on lanes i m here (Some q) (Some t) g h = subst (Gathered (set lanes i (get_or lanes i [] ++ m ∷ []))) (sym h.0) (gathers lanes q i m here g)

long_on : {T : Type 0} → (m : (Message T)) (r s : Option (List (List T))) → HasKept m r s → IsAsLong r s
long_on m r None h = tt
long_on m None (Some t) h = absurd (cc)
long_on m (Some q) (Some t) h = (ap length h.0 ∙ length_kept q m, h.1)

long_same : {T : Type 0} → (r s : Option (List (List T))) → s ≡ r → IsAsLong r s
long_same r None e = tt
long_same None (Some t) e = absurd (cc)
long_same (Some q) (Some t) e = (let same : t ≡ q = cc in ap length same, refl)

long_then : {T : Type 0} → (o r s : Option (List (List T))) → IsAsLong o r → IsAsLong r s → IsAsLong o s
long_then o r None f g = tt
long_then o None (Some t) f g = absurd (cc)
long_then None (Some q) (Some t) f g = absurd (cc)
long_then (Some p) (Some q) (Some t) f g = (g.0 ∙ f.0, refl)

pub visits : {T : Type 0} → (first inboxes : List (Inbox T)) (i : ℕ) (d a b : (Inbox T)) (o r s : Option (List (List T))) → i < length inboxes → a ≡ get_or inboxes i d → lane_of b ≡ lane_of a → IsVisited a b r s → IsRecorded inboxes r → GoesOn first inboxes o r
    → IsRecorded (set inboxes i b) s × GoesOn first (set inboxes i b) o s
visits {T = T} first inboxes i d a b o r s here at lane v old went =
    let lanes : List (List (Message T)) = map taken_of inboxes in
    let was : get_or lanes i [] ≡ taken_of a = get_or-map taken_of inboxes i d [] here ∙ ap taken_of (sym at) in
    let inside : i < length lanes = subst (λ (n : ℕ). i < n) (sym (length-map inboxes taken_of)) here in
    let same_lanes : map lane_of (set inboxes i b) ≡ map lane_of inboxes =
    map-set lane_of inboxes i b ∙ ap (set (map lane_of inboxes) i) (lane ∙ ap lane_of at ∙ sym (get_or-map lane_of inboxes i d (lane_of d) here)) ∙ set-get_or (map lane_of inboxes) i (lane_of d) in
    let one_more : (ts : List (Message T)) → taken_of b ≡ ts → map taken_of (set inboxes i b) ≡ set lanes i ts = λ ts e. map-set taken_of inboxes i b ∙ ap (set lanes i) e in
    let mine : IsHonest b = honest_on a b r s v (subst IsHonest (sym at) (old.honest i d here)) in
    ⊎_elim
    (λ (same : (taken_of b ≡ taken_of a) × (b.end ≡ a.end) × (s ≡ r)).
    let still : map taken_of (set inboxes i b) ≡ lanes = one_more (get_or lanes i []) (same.0 ∙ sym was) ∙ set-get_or lanes i [] in (
      record { gathered = subst (λ (p : List (List (Message T)) × Option (List (List T))). IfSome p.1 (Gathered p.0)) (λ j. (sym still j, sym same.2 j)) old.gathered; honest = All-set IsHonest inboxes i b mine old.honest },
      record { same = same_lanes ∙ went.same; long = long_then o r s went.long (long_same r s same.2) },
    ))
    (λ (took : (m : (Message T)) × (taken_of b ≡ taken_of a ++ m ∷ []) × (b.end ≡ end_after m) × HasKept m r s).
    let grown : map taken_of (set inboxes i b) ≡ set lanes i (get_or lanes i [] ++ took.0 ∷ []) = one_more (get_or lanes i [] ++ took.0 ∷ []) (took.1 ∙ ap (λ (ts : List (Message T)). ts ++ took.0 ∷ []) (sym was)) in (
      record { gathered = subst (λ (ts : List (List (Message T))). IfSome s (Gathered ts)) (sym grown) (gathers_on lanes i took.0 inside r s old.gathered took.3); honest = All-set IsHonest inboxes i b mine old.honest },
      record { same = same_lanes ∙ went.same; long = long_then o r s went.long (long_on took.0 r s took.3) },
    ))
    v

pub more_ended : {T : Type 0} → (inboxes : List (Inbox T)) (i : ℕ) (b : (Inbox T)) → i < length inboxes → HasEnded b → ((j : ℕ) (d : (Inbox T)) → j < i → HasEnded (get_or inboxes j d)) → (j : ℕ) (d : (Inbox T)) → j < i + 1 → HasEnded (get_or (set inboxes i b) j d)
more_ended inboxes i b here mine others j d h =
    dite (ℕ_discrete j i)
    (λ e. subst HasEnded (sym (ap (λ (k : ℕ). get_or (set inboxes i b) k d) e ∙ get_or-set_same inboxes i b d here)) mine)
    (λ ne. subst HasEnded (sym (get_or-set_other inboxes i j b d ne)) (others j d (omega arith)))

-- without a round, all is as it was; and rounds come one after the other
pub stays_so : {T : Type 0} → (inboxes : List (Inbox T)) (r : Option (List (List T))) → GoesOn inboxes inboxes r r
stays_so inboxes r = record { same = refl; long = long_same r r refl }

pub goes_further : {T : Type 0} → (first then now : List (Inbox T)) (o r s : Option (List (List T))) → GoesOn first then o r → GoesOn then now r s → GoesOn first now o s
goes_further first then now o r s before after = record { same = after.same ∙ before.same; long = long_then o r s before.long after.long }
