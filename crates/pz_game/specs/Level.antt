-- The entries of LEVELS.
use Rattle.std.specs.Prelude.{ℕ, Bool, true, false, slice_index_or}
use Rattle.pz_game.specs.declared.game.GameParts.{GameParts}
use Rattle.pz_game.specs.declared.level.LevelEntry.{LevelEntry}
use Rattle.pz_game.specs.declared.level.LevelEntry.TheVariants.{Message, Level}

-- a message is not played
abbrev pub is_playable : LevelEntry → Bool
is_playable Message = false
is_playable (Level drawing) = true

-- the entry of LEVELS of a number
abbrev pub entry_at : GameParts → ℕ → LevelEntry
entry_at game index = slice_index_or game.levels index Message
