-- The text of a set of names, as it is written.
use Rattle.pz_level_text.proofs.Common.{Bor, ◌≡◌, ℕ, List, [], ◌∷◌, ◌++◌, map, refl, ap, join_by, append-nil, text_of_names}

-- the names with a space between two
pub joins : (names : List (Bor (List ℕ))) → join_by (λ n. n.now) (32 ∷ []) names ≡ text_of_names (map (λ n. n.now) names)
joins [] = refl
joins (n ∷ []) = append-nil n.now
joins (n ∷ m ∷ names) = ap (λ l. n.now ++ 32 ∷ l) (joins (m ∷ names))
