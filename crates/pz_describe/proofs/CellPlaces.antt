-- Cells by their places in a list of texts.
use Rattle.std.proofs.Common.{◌≡◌, ℕ, ◌<◌, List, [], ◌∷◌, ◌++◌, All, flat_map, get_or, length, map, refl, ap, ap₂}
use Rattle.std.proofs.Math.ListN.{get_or-map}
use Rattle.std.proofs.lemmas.List.{get_or-map as get_or-map_within}
use Rattle.std.proofs.lemmas.List.Elements.{All-head, All-tail}
use Rattle.pz_describe.specs.Recordings.{place_in}
use Rattle.pz_describe.specs.Values.{numeral}
use Rattle.pz_json_text.specs.CellTexts.{text_of_names}

-- the text of a cell's set is the cell's text
pub texts_at : (sets : List (List (List ℕ))) (places : List ℕ) → map (λ place. get_or (map text_of_names sets) place []) places ≡ map text_of_names (map (λ place. get_or sets place []) places)
texts_at sets [] = refl
texts_at sets (place ∷ places) = ap₂ (λ x xs. x ∷ xs) (get_or-map text_of_names sets place []) (texts_at sets places)

-- the number of a cell's text is the cell's number
pub numbers_at : (known texts : List (List ℕ)) (places : List ℕ) → All (λ place. place < length texts) places
    → flat_map (λ place. numeral (get_or (map (place_in known) texts) place 0)) places ≡ flat_map numeral (map (place_in known) (map (λ place. get_or texts place []) places))
numbers_at known texts [] h = refl
numbers_at known texts (place ∷ places) h =
    ap₂ (λ x xs. numeral x ++ xs)
    (get_or-map_within (place_in known) texts place [] 0 (All-head (λ at. at < length texts) place places h))
    (numbers_at known texts places (All-tail (λ at. at < length texts) place places h))
