-- What a rewriting removes from a cell.
use Rattle.std.specs.Prelude.{ℕ, List, Bool, false, ◌||◌, Option, Some, None, is_some, slice_index}
use Rattle.pz_game.specs.declared.pattern.Item.{Item}
use Rattle.pz_game.specs.Items.{tells_movement, placed_on}

-- the right places something on the layer of the object
abbrev pub is_displaced : List ℕ → List Item → ℕ → Bool
is_displaced layers right object = is_some (placed_on (slice_index layers object) right)

-- the movement of a layer ends: its placed object has a word, or the left has one on it
abbrev pub ends : Bool → Option Item → Bool
ends told None = false
ends told (Some item) = told || tells_movement item.word
