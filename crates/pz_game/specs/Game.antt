-- What holds of a game, and what its names denote.
use Rattle.std.specs.Prelude.{◌≡◌, ℕ, ◌<◌, ◌≤◌, List, [], length, All, codes, get_or, Option, option_and_then, slice_get}
use Rattle.std.specs.Option.{option_map_or}
use Rattle.pz_base.specs.NameSet.{number_in}
use Rattle.pz_game.specs.Word.{IsWord}
use Rattle.pz_game.specs.Denotation.{IsDenoted}
use Rattle.pz_game.specs.declared.denotation.Denotation.{Denotation}
use Rattle.pz_game.specs.declared.game.GameParts.{GameParts}
use Rattle.pz_game.specs.declared.limits.TheConstants.{MOST_OBJECTS, MOST_LAYERS}
use Rattle.pz_game.specs.declared.level.LevelEntry.{LevelEntry}
use Rattle.pz_game.specs.declared.level.LevelEntry.TheVariants.{Message, Level}

-- what a name denotes in a game
abbrev pub denotation_in : GameParts → List ℕ → Option Denotation
denotation_in game name = option_and_then (slice_get game.values) (number_in game.names name)

-- the objects of a name, or none if there is no such name
abbrev pub members_in : GameParts → List ℕ → List ℕ
members_in game name = option_map_or (λ d. d.members) (denotation_in game name) []

-- the objects that are the player
abbrev pub players_of : GameParts → List ℕ
players_of game = members_in game (codes "player")

-- the first object of the background
abbrev pub background_of : GameParts → ℕ
background_of game = get_or (members_in game (codes "background")) 0 0

-- the objects that a glyph draws, by the number of its name
abbrev pub glyph_objects : GameParts → ℕ → List ℕ
glyph_objects game number = option_map_or (λ d. d.members) (slice_get game.values number) []

-- each cell of a level is drawn by a name
abbrev pub IsDrawnBy : ℕ → LevelEntry → Type 0
IsDrawnBy names Message = Unit {0}
IsDrawnBy names (Level drawing) = All (λ number. number < names) drawing.cells

-- what holds of every game
pub record IsGame (game : GameParts) : Type 0 where
  pub few : length game.objects ≤ MOST_OBJECTS
  pub shallow : game.depth ≤ MOST_LAYERS
  pub laid : length game.layers ≡ length game.objects
  pub layered : All (λ layer. layer < game.depth) game.layers
  pub denoted : length game.values ≡ length game.names
  pub members : All (IsDenoted (length game.objects)) game.values
  pub player : 0 < length (players_of game)
  pub background : 0 < length (members_in game (codes "background"))
  pub drawn : All (IsDrawnBy (length game.values)) game.levels
  pub worded : All IsWord game.objects
