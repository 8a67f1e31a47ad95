-- A level that equals a recorded one.
use Rattle.std.specs.Prelude.{ℕ, Bool, true, false, ◌&&◌, List, [], ◌∷◌}
use Rattle.pz_game.specs.declared.game.GameParts.{GameParts}
use Rattle.pz_sheet.specs.Grid.{Grid}
use Rattle.pz_record.specs.declared.order.Order.{Order}
use Rattle.pz_record.specs.CellNames.{same_set}
use Rattle.pz_level_text.specs.LevelNames.{sets_in}

-- the same sets in the same order, and as many
abbrev pub same_sets : List (List (List ℕ)) → List (List (List ℕ)) → Bool
same_sets [] [] = true
same_sets (x ∷ xs) (y ∷ ys) = same_set x y && same_sets xs ys
same_sets xs ys = false

-- texts.equal: the level has as many cells as were recorded, and each, in this order, has exactly the recorded names
unfoldable pub equals_recorded : GameParts → Order → Grid → List (List (List ℕ)) → Bool
equals_recorded game order grid recorded = same_sets (sets_in game order grid) recorded
