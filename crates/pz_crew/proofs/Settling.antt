-- An inbox that took a last message took all.
use Rattle.std.proofs.Common.{◌≡◌, ℕ, List, [], ◌∷◌, ◌++◌, Some, None, Option, IfSome, IsSome, sym, ap, ◌∙◌, append_assoc}
use Rattle.std.proofs.lemmas.List.{append-nil}
use Rattle.pz_crew.specs.declared.lane.End.{End}
use Rattle.pz_crew.specs.declared.lane.Message.{Message}
use Rattle.pz_crew.specs.declared.lane.Message.TheVariants as messages
use Rattle.pz_crew.specs.Pieces.{pieces_at}
use Rattle.pz_crew.specs.Sent.{messages_of, messages_for, sent_for}

AllItems : {T : Type 0} → List (Message T) → Type 0
AllItems [] = Unit {0}
AllItems (messages.Piece k x ∷ ms) = AllItems ms
AllItems (messages.Last e ∷ ms) = ⊥

of_one_session : {T : Type 0} → (k : ℕ) (xs : List T) (ms : List (Message T)) → AllItems ms → AllItems (messages_of k xs ++ ms)
unfolding AllItems
of_one_session k [] ms h = h
of_one_session k (x ∷ xs) ms h = of_one_session k xs ms h

all_items : {T : Type 0} → (sessions : List (List T)) (ks : List ℕ) → AllItems (messages_for sessions ks)
unfolding AllItems
all_items sessions [] = tt
all_items sessions (k ∷ ks) = of_one_session k (pieces_at sessions k) (messages_for sessions ks) (all_items sessions ks)

not_empty : {T : Type 0} → (ms : List (Message T)) (m : (Message T)) (ns : List (Message T)) → ms ++ m ∷ ns ≡ [] → ⊥
not_empty [] m ns e = cc
not_empty (x ∷ ms) m ns e = cc

ends_there : {T : Type 0} → (ps : List (Message T)) → AllItems ps → (front : List (Message T)) (e f : End) (known : List (Message T)) → front ++ messages.Last e ∷ known ≡ ps ++ messages.Last f ∷ [] → known ≡ []
unfolding AllItems
ends_there [] h [] e f known is = cc
ends_there [] h (x ∷ front) e f known is = absurd (not_empty front (messages.Last e) known (let t : front ++ messages.Last e ∷ known ≡ [] = cc in t))
ends_there (messages.Piece k x ∷ ps) h [] e f known is = absurd (cc)
ends_there (messages.Piece k x ∷ ps) h (m ∷ front) e f known is = ends_there ps h front e f known (let t : front ++ messages.Last e ∷ known ≡ ps ++ messages.Last f ∷ [] = cc in t)
ends_there (messages.Last g ∷ ps) h front e f known is = absurd h

-- what was taken is all that was sent
pub took_all : {T : Type 0} → (sessions : List (List T)) (ks : List ℕ) (taken known sent : List (Message T)) (end : Option End) → IfSome end (λ e. (front : List (Message T)) × (taken ≡ front ++ messages.Last e ∷ [])) → IsSome end
    → sent ≡ taken ++ known → sent ≡ sent_for sessions ks → taken ≡ sent_for sessions ks
took_all sessions ks taken known sent None honest ended a b = absurd (cc)
took_all {T = T} sessions ks taken known sent (Some e) honest ended a b =
    let front = honest.0 in
    let is : front ++ messages.Last e ∷ known ≡ sent_for sessions ks = sym (append_assoc front (messages.Last e ∷ []) known) ∙ ap (λ (t : List (Message T)). t ++ known) (sym honest.1) ∙ sym a ∙ b in
    let none = ends_there (messages_for sessions ks) (all_items sessions ks) front e _ known is in
    sym (append-nil taken) ∙ ap (λ (k : List (Message T)). taken ++ k) (sym none) ∙ sym a ∙ b
