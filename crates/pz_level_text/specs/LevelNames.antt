-- The names that stand in the cells of a level.
use Rattle.std.specs.Prelude.{ℕ, suc, Bool, List, [], ◌∷◌, map, if◌then◌else◌}
use Rattle.pz_game.specs.declared.game.GameParts.{GameParts}
use Rattle.pz_sheet.specs.Grid.{Grid}
use Rattle.pz_sheet.specs.Standing.{stands}
use Rattle.pz_record.specs.declared.order.Order.{Order}
use Rattle.pz_level_text.specs.CellOrder.{cells_in}
use Rattle.pz_record.specs.CellNames.{set_of}

-- the names of the objects that pass a test; the first name is that of object k
abbrev pub chosen_from : (ℕ → Bool) → ℕ → List (List ℕ) → List (List ℕ)
chosen_from test k [] = []
chosen_from test k (name ∷ names) = if test k then name ∷ chosen_from test (suc k) names else chosen_from test (suc k) names

-- the names of the objects that stand at a position
unfoldable pub standing_names : List (List ℕ) → Grid → ℕ × ℕ → List (List ℕ)
standing_names objects grid position = chosen_from (stands grid position.0 position.1) 0 objects

-- for each cell of a level, in an order, the set of its names
abbrev pub sets_in : GameParts → Order → Grid → List (List (List ℕ))
sets_in game order grid = map (λ position. set_of (standing_names game.objects grid position)) (cells_in order grid)
