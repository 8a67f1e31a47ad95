-- How many lists a product has.
use Rattle.std.proofs.Common.{Bool, true, false, ◌==◌, ◌||◌, ◌≡◌, ◌≤◌, ℕ, ◌+◌, ◌*◌, List, [], ◌∷◌, map, length, refl, ap, sym, ◌∙◌, arith, ◌<◌, zero, suc, drop, get_or}
use Rattle.std.specs.List.{All}
use Rattle.std.proofs.Math.Nat.{mul-le-mul_left, mul_assoc}
use Rattle.pz_plan.specs.declared.plan.Choice.{Choice}
use Rattle.pz_game.specs.declared.denotation.Denotation.{Denotation}
use Rattle.std.proofs.lemmas.Bool.{eqb-true, eqb-false, or_parts, false≢true}
use Rattle.std.specs.List.{list_any}
use Rattle.std.proofs.lemmas.List.{at_drop_more}
use Rattle.pz_base.specs.Lists.{product_of}
use Rattle.pz_rules.specs.Counting.{size_of}

-- every choice has a pick
pub product-positive : (table : List Denotation) (xs : List Choice) → All (λ c. 1 ≤ size_of table c) xs → 1 ≤ product_of (map (size_of table) xs)
product-positive table [] each = omega arith
product-positive table (x ∷ xs) each =
    let here : 1 ≤ size_of table x = each 0 x (omega arith) in
    let later : 1 ≤ product_of (map (size_of table) xs) = product-positive table xs (λ k d below. each (suc k) d (omega arith)) in
    omega (arith, mul-le-mul_left (size_of table x) later)

-- the count so far times the sizes that are left is the whole; what is left is at least one
pub above-stays : (count rest whole limit : ℕ) → count * rest ≡ whole → 1 ≤ rest → limit < count → whole ≤ limit → ⊥
above-stays count rest whole limit e some above within = absurd (omega (arith, mul-le-mul_left count some))

pub next-size : (table : List Denotation) (xs : List Choice) (i : ℕ) (x : Choice) → i < length xs → x ≡ get_or xs i x → product_of (map (size_of table) (drop i xs)) ≡ size_of table x * product_of (map (size_of table) (drop (i + 1) xs))
next-size table xs i x in_range at = at_drop_more (λ l. product_of (map (size_of table) l)) xs i x in_range ∙ ap (λ y. size_of table y * product_of (map (size_of table) (drop (i + 1) xs))) (sym at)

pub next-count : (count size left rest whole : ℕ) → count * left ≡ whole → left ≡ size * rest → (count * size) * rest ≡ whole
next-count count size left rest whole e f = mul_assoc count size rest ∙ ap (λ n. count * n) (sym f) ∙ e

-- a product with an empty choice is empty
pub product-empty : (table : List Denotation) (xs : List Choice) → list_any (λ c. size_of table c == 0) xs ≡ true → product_of (map (size_of table) xs) ≡ 0
product-empty table [] e = absurd (false≢true e)
product-empty table (x ∷ xs) e =
    let rest = product_of (map (size_of table) xs) in
    let by : (b : Bool) → (size_of table x == 0) ≡ b → b || list_any (λ c. size_of table c == 0) xs ≡ true → size_of table x * rest ≡ 0 =
    λ b. elim b as (λ b. (size_of table x == 0) ≡ b → b || list_any (λ c. size_of table c == 0) xs ≡ true → size_of table x * rest ≡ 0) [
      | true ↦ λ h f. ap (λ n. n * rest) (eqb-true (size_of table x) 0 h) ∙ omega arith
      | false ↦ λ h f. ap (λ n. size_of table x * n) (product-empty table xs f) ∙ omega arith
    ] in
    by (size_of table x == 0) refl e

some-pick : (table : List Denotation) (x : Choice) → (size_of table x == 0) ≡ false → 1 ≤ size_of table x
some-pick table x h = let apart : size_of table x ≡ 0 → ⊥ = eqb-false (size_of table x) 0 h in omega (arith, apart)

pub none-empty : (table : List Denotation) (xs : List Choice) → list_any (λ c. size_of table c == 0) xs ≡ false → All (λ c. 1 ≤ size_of table c) xs
none-empty table [] e k d below = absurd (omega arith)
none-empty table (x ∷ xs) e zero d below = some-pick table x (or_parts (size_of table x == 0) (list_any (λ c. size_of table c == 0) xs) e).0
none-empty table (x ∷ xs) e (suc k) d below = none-empty table xs (or_parts (size_of table x == 0) (list_any (λ c. size_of table c == 0) xs) e).1 k d (omega arith)
