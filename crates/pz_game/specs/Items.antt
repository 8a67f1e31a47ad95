-- What the items of a rule's cell say.
use Rattle.std.specs.Prelude.{ℕ, List, find, Bool, true, false, not, ◌&&◌, Option, nat_eq}
use Rattle.std.specs.List.{list_any}
use Rattle.pz_game.specs.declared.pattern.Item.{Item}
use Rattle.pz_game.specs.declared.pattern.Word.{Word}
use Rattle.pz_game.specs.declared.pattern.Word.TheVariants.{Still, Toward, Absent}

-- a word under which an object is named as present
abbrev pub names : Word → Bool
names Absent = false
names _ = true

-- a movement word: `stationary` or a direction
abbrev pub tells_movement : Word → Bool
tells_movement Still = true
tells_movement (Toward _) = true
tells_movement _ = false

abbrev pub is_on : ℕ → Item → Bool
is_on layer item = nat_eq item.layer layer

abbrev pub places_on : ℕ → Item → Bool
places_on layer item = names item.word && is_on layer item

-- the item of a right cell that places an object on a layer
abbrev pub placed_on : ℕ → List Item → Option Item
placed_on layer right = find (places_on layer) right

-- a left cell has a movement word on an object of a layer
abbrev pub tells_of : ℕ → List Item → Bool
tells_of layer left = list_any (λ item. tells_movement item.word && is_on layer item) left

-- a cell names an object as present
abbrev pub names_object : ℕ → List Item → Bool
names_object object cell = list_any (λ item. names item.word && nat_eq item.object object) cell

-- a cell has an object under `no`
abbrev pub forbids_object : ℕ → List Item → Bool
forbids_object object cell = list_any (λ item. not (names item.word) && nat_eq item.object object) cell
