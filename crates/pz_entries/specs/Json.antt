-- What JSON values hold.
use Rattle.std.specs.Prelude.{List, [], ◌∷◌, Option, option_map, option_and_then}
use Rattle.serde_json.specs.Data.{Data, Items, no_items, item}
use Rattle.serde_json.specs.Find.{as_array}

-- the elements of a JSON list
abbrev pub elements_of : Items → List Data
elements_of no_items = []
elements_of (item d ds) = d ∷ elements_of ds

abbrev pub list_of : Data → Option (List Data)
list_of d = option_map elements_of (as_array d)

infixl 10 ◌>>=◌
abbrev pub ◌>>=◌ : {A B : Type 0} → Option A → (A → Option B) → Option B
o >>= f = option_and_then f o
