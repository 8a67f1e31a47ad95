-- The items of a cell as sets: what must be present and absent, what must move so and what must be still; of a right cell what is placed
-- and on which layers, whose movement ends, and what begins to move.
use Rattle.std.specs.Prelude.{◌≡◌, ◌<◌, ℕ, List, Bool, true, false, not, ◌&&◌, ◌||◌, Option, Some, None, nat_eq, is_some, if◌then◌else◌}
use Rattle.std.specs.List.{list_any}
use Rattle.pz_game.specs.declared.limits.TheConstants.{MOST_LAYERS}
use Rattle.pz_sets.specs.Sets.{member}
use Rattle.pz_sets.specs.declared.set.TheConstants.{CAPACITY}
use Rattle.pz_game.specs.declared.direction.Dir.{Dir}
use Rattle.pz_game.specs.declared.pattern.Word.{Word}
use Rattle.pz_game.specs.declared.pattern.Word.TheVariants.{Still, Toward}
use Rattle.pz_game.specs.declared.pattern.Item.{Item}
use Rattle.pz_game.specs.Items.{names, tells_movement, is_on, placed_on, tells_of, names_object, forbids_object}
use Rattle.pz_game.specs.Headings.{is_toward, heads, IsProper}
use Rattle.pz_game.specs.declared.masks.Masks.{Masks}

abbrev pub is_still : Word → Bool
is_still Still = true
is_still _ = false

-- the direction of a word, if a test holds
abbrev pub toward : Bool → Word → Option Dir
toward test (Toward dir) = if test then Some dir else None
toward test _ = None

-- an item says that the object of a layer heads in a direction
abbrev pub asks_toward : ℕ → Dir → List Item → Bool
asks_toward layer dir items = list_any (λ item. is_toward (toward true item.word) dir && is_on layer item) items

-- an item says that the object of a layer is still
abbrev pub asks_still : ℕ → List Item → Bool
asks_still layer items = list_any (λ item. is_still item.word && is_on layer item) items

-- the placed object of a layer has a movement word
abbrev pub settles : Option Item → Bool
settles None = false
settles (Some item) = tells_movement item.word

-- the placed object of a layer gets a direction
abbrev pub begins : Dir → Option Item → Bool
begins dir None = false
begins dir (Some item) = is_toward (toward true item.word) dir

-- an item is the first that places an object on its layer
abbrev pub is_first : Item → Masks → Bool
is_first item masks = names item.word && not (member masks.layers item.layer)

-- an item's object and layer are within the limits of games
abbrev pub IsLow : Item → Type 0
IsLow item = (item.object < CAPACITY) × (item.layer < MOST_LAYERS)

-- what one more item adds to the masks
pub record IsAdded (item : Item) (old new : Masks) : Type 0 where
  pub present : (object : ℕ) → member new.present object ≡ ((names item.word && nat_eq object item.object) || member old.present object)
  pub absent : (object : ℕ) → member new.absent object ≡ ((not (names item.word) && nat_eq object item.object) || member old.absent object)
  pub required : (layer : ℕ) (dir : Dir) → heads new.required layer dir ≡ ((nat_eq layer item.layer && is_toward (toward true item.word) dir) || heads old.required layer dir)
  pub forbidden : (layer : ℕ) (dir : Dir) → heads new.forbidden layer dir ≡ ((is_still item.word && nat_eq layer item.layer) || heads old.forbidden layer dir)
  pub told : (layer : ℕ) (dir : Dir) → heads new.told layer dir ≡ ((tells_movement item.word && nat_eq layer item.layer) || heads old.told layer dir)
  pub layers : (layer : ℕ) → member new.layers layer ≡ ((is_first item old && nat_eq layer item.layer) || member old.layers layer)
  pub placed : (object : ℕ) → member new.placed object ≡ ((is_first item old && nat_eq object item.object) || member old.placed object)
  pub covered : (layer : ℕ) (dir : Dir) → heads new.covered layer dir ≡ ((is_first item old && nat_eq layer item.layer) || heads old.covered layer dir)
  pub settled : (layer : ℕ) (dir : Dir) → heads new.settled layer dir ≡ (((is_first item old && tells_movement item.word) && nat_eq layer item.layer) || heads old.settled layer dir)
  pub headed : (layer : ℕ) (dir : Dir) → heads new.headed layer dir ≡ ((nat_eq layer item.layer && is_toward (toward (is_first item old) item.word) dir) || heads old.headed layer dir)
  pub proper_required : IsProper old.required → IsProper new.required
  pub proper_forbidden : IsProper old.forbidden → IsProper new.forbidden
  pub proper_headed : IsProper old.headed → IsProper new.headed

-- the masks say what the items say
pub record AreMasksOf (items : List Item) (masks : Masks) : Type 0 where
  pub present : (object : ℕ) → member masks.present object ≡ names_object object items
  pub absent : (object : ℕ) → member masks.absent object ≡ forbids_object object items
  pub required : (layer : ℕ) (dir : Dir) → heads masks.required layer dir ≡ asks_toward layer dir items
  pub forbidden : (layer : ℕ) (dir : Dir) → heads masks.forbidden layer dir ≡ asks_still layer items
  pub told : (layer : ℕ) (dir : Dir) → heads masks.told layer dir ≡ tells_of layer items
  pub layers : (layer : ℕ) → member masks.layers layer ≡ is_some (placed_on layer items)
  pub placed : (layer : ℕ) (item : Item) → placed_on layer items ≡ Some item → member masks.placed item.object ≡ true
  pub placed_only : (object : ℕ) → member masks.placed object ≡ true → (layer : ℕ) × (item : Item) × (placed_on layer items ≡ Some item) × (item.object ≡ object)
  pub covered : (layer : ℕ) (dir : Dir) → heads masks.covered layer dir ≡ is_some (placed_on layer items)
  pub settled : (layer : ℕ) (dir : Dir) → heads masks.settled layer dir ≡ settles (placed_on layer items)
  pub headed : (layer : ℕ) (dir : Dir) → heads masks.headed layer dir ≡ begins dir (placed_on layer items)
  pub proper_required : IsProper masks.required
  pub proper_forbidden : IsProper masks.forbidden
  pub proper_headed : IsProper masks.headed
