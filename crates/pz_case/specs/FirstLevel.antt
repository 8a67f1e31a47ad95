-- The first level among the entries of LEVELS.
use Rattle.std.specs.Prelude.{ℕ, ◌+◌, drop, position, Option, option_map}
use Rattle.pz_game.specs.declared.game.GameParts.{GameParts}
use Rattle.pz_game.specs.Level.{is_playable}

-- play.start: the first level among the entries from a number on: a message is passed over
unfoldable pub level_from : GameParts → ℕ → Option ℕ
level_from game index = option_map (λ passed. index + passed) (position is_playable (drop index game.levels))
