-- The text of a set of names.
use Rattle.std.proofs.Common.{Bor, ◌≡◌, ℕ, List, [], ◌∷◌, ◌++◌, map, refl, ap}
use Rattle.std.proofs.lemmas.List.{append-nil}
use Rattle.std.specs.List.{join_by}
use Rattle.pz_json_text.specs.CellTexts.{text_of_names}

-- the names with a space between two
pub joins : (names : List (Bor (List ℕ))) → join_by (λ n. n.now) (32 ∷ []) names ≡ text_of_names (map (λ n. n.now) names)
joins [] = refl
joins (n ∷ []) = append-nil n.now
joins (n ∷ m ∷ names) = ap (λ l. n.now ++ 32 ∷ l) (joins (m ∷ names))
