-- All ways to take one element from each list.
use Rattle.std.specs.Prelude.{List, [], ◌∷◌, map}
use Rattle.std.specs.List.{flat_map}

-- match.combinations: in order, the element of the first list varying fastest
abbrev pub combinations : {X : Type 0} → List (List X) → List (List X)
combinations [] = [] ∷ []
combinations (xs ∷ lists) = flat_map (λ rest. map (λ x. x ∷ rest) xs) (combinations lists)
