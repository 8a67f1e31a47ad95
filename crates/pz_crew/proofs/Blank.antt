-- Sessions that have no item.
use Rattle.std.proofs.Common.{◌≡◌, ℕ, ◌+◌, ◌≤◌, List, [], ◌∷◌, ◌++◌, map, replicate, ap, ◌∙◌, arith}
use Rattle.std.proofs.lemmas.List.{map-append, replicate_more}

pub more_blank : {X Y : Type 0} (f : X → List Y) (xs ys : List X) (x : X) (many : ℕ) → map f xs ≡ replicate many [] → f x ≡ [] → ys ≡ xs ++ x ∷ [] → map f ys ≡ replicate (many + 1) []
more_blank {Y = Y} f xs ys x many blank none more =
    ap (map f) more ∙ map-append f xs (x ∷ []) ∙ ap (λ (l : List (List Y)). l ++ f x ∷ []) blank ∙ ap (λ (l : List Y). replicate many [] ++ l ∷ []) none ∙ replicate_more many []

pub all_blank : {Y : Type 0} (ls : List (List Y)) (done many : ℕ) → ls ≡ replicate done [] → many ≤ done → done ≤ many → ls ≡ replicate many []
all_blank done_ls done many blank over within =
    let same : done ≡ many = omega arith in
    blank ∙ ap (λ (n : ℕ). replicate n []) same
