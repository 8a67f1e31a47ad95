-- Worked cases of where a session starts, and of which level follows one.
use Rattle.std.proofs.Common.{◌≡◌, List, [], ◌∷◌, Some, None, false, refl}
use Rattle.std.specs.Prelude.{codes, map}
use Rattle.pz_game.specs.declared.denotation.Kind.TheVariants.{Object}
use Rattle.pz_game.specs.declared.game.GameParts.{GameParts}
use Rattle.pz_game.specs.declared.level.LevelEntry.{LevelEntry}
use Rattle.pz_game.specs.declared.level.LevelEntry.TheVariants.{Message, Level}
use Rattle.pz_case.specs.FirstLevel.{level_from}

-- background and player, and these entries of LEVELS
abbrev game : List LevelEntry → GameParts
game levels = record {
  objects = codes "background" ∷ codes "player" ∷ [];
  names = codes "background" ∷ codes "player" ∷ [];
  values = record { kind = Object; members = 0 ∷ []; number = 0 } ∷ record { kind = Object; members = 1 ∷ []; number = 1 } ∷ [];
  layers = 0 ∷ 1 ∷ [];
  depth = 2;
  rules = [];
  wins = [];
  levels = levels;
  options = record { run_rules_on_level_start = false; require_player_movement = false };
}

-- a level of one row: the player and a bare cell
abbrev entry : LevelEntry
entry = Level (record { width = 2; height = 1; cells = 1 ∷ 0 ∷ [] })

-- a message is passed over; behind the last level there is none
abbrev entries : List LevelEntry
entries = entry ∷ Message ∷ Message ∷ entry ∷ Message ∷ []

pub starts_at_level : level_from (game entries) 0 ≡ Some 0
unfolding level_from
starts_at_level = refl

pub passes_messages : level_from (game entries) 1 ≡ Some 3
unfolding level_from
passes_messages = refl

pub no_level_left : level_from (game entries) 4 ≡ None
unfolding level_from
no_level_left = refl

pub index_behind_all : level_from (game entries) 18446744073709551615 ≡ None
unfolding level_from
index_behind_all = refl

-- a message before the first level too
pub first_levels : map (level_from (game (Message ∷ entry ∷ Message ∷ entry ∷ Message ∷ []))) (0 ∷ 1 ∷ 2 ∷ 4 ∷ 9 ∷ [])
    ≡ Some 1 ∷ Some 1 ∷ Some 3 ∷ None ∷ None ∷ []
unfolding level_from
first_levels = refl
