-- The cells of a level by the labels of their texts.
use Rattle.std.specs.Prelude.{◌≡◌, ℕ, ◌<◌, List, length, map, slice_index}
use Rattle.pz_game.specs.declared.game.GameParts.{GameParts}
use Rattle.pz_sheet.specs.Grid.{Grid}
use Rattle.pz_sets.specs.Sets.{member}
use Rattle.pz_record.specs.declared.order.Order.{Order}
use Rattle.pz_record.specs.CellNames.{set_of}
use Rattle.pz_json_text.specs.CellTexts.{text_of_names}
use Rattle.pz_json_text.specs.Labels.{text_at}
use Rattle.pz_level_text.specs.LevelNames.{chosen_from, sets_in}

-- the text of a set of objects
abbrev pub set_text : List (List ℕ) → List ℕ → List ℕ
set_text names objects = text_of_names (set_of (chosen_from (member objects) 0 names))

-- the texts of the cells of a level, in an order
abbrev pub texts_in : GameParts → Order → Grid → List (List ℕ)
texts_in game order grid = map text_of_names (sets_in game order grid)

-- a set of objects has the text of this label
abbrev pub IsLabelOf : List (List ℕ) → List (List ℕ) → List ℕ → ℕ → Type 0
IsLabelOf names texts objects label = (label < length texts) × (text_at texts label ≡ set_text names objects)

-- each set of objects with this first word has the text of this label
abbrev pub IsLabelOfWord : List (List ℕ) → List (List ℕ) → ℕ → ℕ → Type 0
IsLabelOfWord names texts word label = (objects : List ℕ) → slice_index objects 0 ≡ word → IsLabelOf names texts objects label

-- the texts that are known of a game
pub record TableView : Type 0 where
  pub game : GameParts
  pub texts : List (List ℕ)

-- the texts of a game's levels in an order: the texts that are known, and those of the cells of the last level
pub record WriterView : Type 0 where
  pub table : TableView
  pub order : Order
  pub cells : List (List ℕ)
