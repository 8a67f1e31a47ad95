-- The last text of a level, and the cells that have changed since.
use Rattle.std.specs.Prelude.{ℕ, ◌<◌, List}
use Rattle.pz_json_text.specs.Written.{HasTextBut, RoomView}
use Rattle.pz_level_text.specs.declared.last_text.LastText.{LastText}

-- the room has the text of a level whose cells were as these, but for those that have changed since
abbrev pub IsLastOf : List (List ℕ) → List (List ℕ) → RoomView → LastText → Type 0
IsLastOf cells texts room last = (0 < last.width) × HasTextBut last.width last.changed.first last.changed.end cells texts room
