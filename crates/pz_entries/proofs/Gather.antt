-- A loop that keeps what a function gives of each element, and stops at the first of which it gives nothing.
use Rattle.std.proofs.Common.{◌≡◌, ◌+◌, ℕ, ◌<◌, length, get_or, drop, List, [], ◌∷◌, ◌++◌, map, Option, Some, None, option_map, refl, ap, ◌∙◌, sym}
use Rattle.std.proofs.lemmas.List.{at_drop_more}
use Rattle.serde_json.specs.Data.{Data}
use Rattle.serde_json.specs.declared.value.Value.{Value}
use Rattle.serde_json.specs.Find.{as_array}
use Rattle.serde_json.specs.View.{items_of, items_view, view as data_of}
use Rattle.pz_base.specs.Each.{all_some}
use Rattle.pz_entries.specs.Json.{elements_of, list_of}

-- what is kept in the end, after these
abbrev pub gathered : {A B : Type 0} → (A → Option B) → List B → List A → Option (List B)
gathered f done rest = option_map (λ ys. done ++ ys) (all_some (map f rest))

gathered_none : {A B : Type 0} (f : A → Option B) (done : List B) (x : A) (rest : List A) → f x ≡ None → gathered f done (x ∷ rest) ≡ None
gathered_none f done x rest e = rw e refl

same : {B : Type 0} (o : Option (List B)) → option_map (λ (ys : List B). [] ++ ys) o ≡ o
same None = refl
same (Some ys) = refl

-- at an element of which there is nothing
pub stopped : {A B : Type 0} (f : A → Option B) (xs : List A) (done : List B) (i : ℕ) (x : A)
    → gathered f done (drop i xs) ≡ gathered f [] xs → i < length xs → x ≡ get_or xs i x → f x ≡ None → None ≡ all_some (map f xs)
stopped f xs done i x kept h is none =
    let at_x : f (get_or xs i x) ≡ None = rw (← is) none in
    sym (sym (same (all_some (map f xs))) ∙ (sym kept ∙ (at_drop_more (gathered f done) xs i x h ∙ gathered_none f done (get_or xs i x) (drop (i + 1) xs) at_x)))

pub listed-items_of : (ds : List Data) → elements_of (items_of ds) ≡ ds
listed-items_of [] = refl
listed-items_of (d ∷ ds) = ap (λ (t : List Data). d ∷ t) (listed-items_of ds)

pub map-map : {A B C : Type 0} (f : B → C) (g : A → B) (xs : List A) → map f (map g xs) ≡ map (λ x. f (g x)) xs
map-map f g [] = refl
map-map {C = C} f g (x ∷ xs) = ap (λ (t : List C). f (g x) ∷ t) (map-map f g xs)

-- the elements of a list of values
pub list_of-array : (d : Data) (vs : List Value) → Some (items_view vs) ≡ as_array d → list_of d ≡ Some (map data_of vs)
list_of-array d vs e = rw (← e) (ap Some (listed-items_of (map data_of vs)))

pub list_of-none : (d : Data) → None ≡ as_array d → list_of d ≡ None
list_of-none d e = rw (← e) refl
