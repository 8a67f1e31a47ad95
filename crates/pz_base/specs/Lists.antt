-- Products and first occurrences.
use Rattle.std.specs.Prelude.{ℕ, ◌*◌, Bool, not, List, [], ◌∷◌, ◌++◌, map, filter, fold, if◌then◌else◌}
use Rattle.std.specs.List.{flat_map, list_any}

-- the lists with one element of each list, the first element varying slowest
abbrev pub product : {X : Type 0} → List (List X) → List (List X)
product [] = [] ∷ []
product (xs ∷ xss) = flat_map (λ x. map (λ rest. x ∷ rest) (product xss)) xs

-- the elements, each only where it first occurs
abbrev pub firsts : {X : Type 0} → (X → X → Bool) → List X → List X
firsts same [] = []
firsts same (x ∷ xs) = x ∷ filter (λ y. not (same x y)) (firsts same xs)

-- the kept elements, with one more at the end unless one of them is the same
abbrev pub with_new : {X : Type 0} → (X → X → Bool) → List X → X → List X
with_new same kept x = if list_any (λ other. same other x) kept then kept else kept ++ x ∷ []

abbrev pub added_all : {X : Type 0} → (X → X → Bool) → List X → List X → List X
added_all same kept xs = fold (with_new same) kept xs

-- the product of numbers
abbrev pub product_of : List ℕ → ℕ
product_of [] = 1
product_of (n ∷ ns) = n * product_of ns
