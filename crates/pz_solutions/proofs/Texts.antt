-- Lines in their fields.
use Rattle.std.proofs.Common.{◌≡◌, ℕ, List, ◌++◌, ap, ◌∙◌}
use Rattle.std.proofs.lemmas.List.{append_assoc}

pub bounds_in_fields : (lines a b c d e : List ℕ) → ((lines ++ (a ++ b)) ++ (c ++ d)) ++ e ≡ lines ++ (a ++ (b ++ (c ++ (d ++ e))))
bounds_in_fields lines a b c d e =
    append_assoc (lines ++ (a ++ b)) (c ++ d) e
    ∙ append_assoc lines (a ++ b) ((c ++ d) ++ e)
    ∙ ap (λ (text : List ℕ). lines ++ text) (append_assoc a b ((c ++ d) ++ e) ∙ ap (λ (text : List ℕ). a ++ (b ++ text)) (append_assoc c d e))

pub session_in_fields : (lines a b c d e : List ℕ) → (((lines ++ (a ++ b)) ++ c) ++ d) ++ e ≡ lines ++ (a ++ (b ++ (c ++ (d ++ e))))
session_in_fields lines a b c d e =
    append_assoc ((lines ++ (a ++ b)) ++ c) d e
    ∙ append_assoc (lines ++ (a ++ b)) c (d ++ e)
    ∙ append_assoc lines (a ++ b) (c ++ (d ++ e))
    ∙ ap (λ (text : List ℕ). lines ++ text) (append_assoc a b (c ++ (d ++ e)))
