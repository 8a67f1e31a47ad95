-- The label of a cell: the place of its text among different texts.
use Rattle.std.specs.Prelude.{◌≡◌, ℕ, false, List, [], ◌∷◌, slice_index_or}
use Rattle.std.specs.List.{list_any}
use Rattle.std.specs.Str.{bytes_eq}

-- no text stands twice
abbrev pub AreDistinct : List (List ℕ) → Type 0
AreDistinct [] = Unit {0}
AreDistinct (text ∷ texts) = (list_any (λ other. bytes_eq other text) texts ≡ false) × AreDistinct texts

-- the text of a label
abbrev pub text_at : List (List ℕ) → ℕ → List ℕ
text_at texts label = slice_index_or texts label []
