-- The text of a level.
use Rattle.std.specs.Prelude.{◌≢◌, ℕ, List, map, All}
use Rattle.pz_game.specs.declared.game.GameParts.{GameParts}
use Rattle.pz_sheet.specs.Grid.{Grid}
use Rattle.pz_record.specs.declared.order.Order.{Order}
use Rattle.pz_json_text.specs.CellTexts.{text_of_names, text_of_cells}
use Rattle.pz_level_text.specs.LevelNames.{sets_in}

-- the text of a level, with its cells in an order
unfoldable pub text_of_level : GameParts → Order → Grid → List ℕ
text_of_level game order grid = text_of_cells grid.width (map text_of_names (sets_in game order grid))

-- no object of the game has a comma in its name
abbrev pub HasNoComma : GameParts → Type 0
HasNoComma game = All (All (λ c. c ≢ 44)) game.objects
