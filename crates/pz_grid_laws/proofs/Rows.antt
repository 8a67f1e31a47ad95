-- Worked cases.
use Rattle.pz_grid_laws.proofs.Common.{Action, Denotation, Dir, Drawing, GameParts, Grid, Left, Level, List, Message, None, Object, Option, Piece, Right, Some, Up, [], codes, false, heading_at, level_of_entry, players_of, pushed_level, refl, after_movement, same_grid, stands, true, ℕ, ◌∷◌, ◌≡◌}

-- objects: background 0, grass 1, player 2, wall 3, crate 4, spike 5; layers: 0 and 1, then the others
abbrev layers : List ℕ
layers = 0 ∷ 0 ∷ 1 ∷ 1 ∷ 1 ∷ 1 ∷ []

abbrev thing : ℕ → Option Dir → Option Piece
thing object heading = Some (record { object = object; heading = heading })

-- a cell of floor with this above it
abbrev cell : Option Piece → List (Option Piece)
cell place = thing 0 None ∷ place ∷ []

abbrev floor : List (Option Piece)
floor = cell None

abbrev still : ℕ → List (Option Piece)
still object = cell (thing object None)

abbrev toward : ℕ → Dir → List (Option Piece)
toward object dir = cell (thing object (Some dir))

abbrev level : ℕ → ℕ → List (List (Option Piece)) → Grid
level width height cells = record { width = width; height = height; depth = 2; layers = layers; cells = cells }

-- c.sp with the crate heading right and the spike left: .csp, since the crate is first and takes the place
pub moves_in_order : after_movement (level 4 1 (toward 4 Right ∷ floor ∷ toward 5 Left ∷ still 2 ∷ [])) ≡ level 4 1 (floor ∷ still 4 ∷ still 5 ∷ still 2 ∷ [])
moves_in_order = refl

-- cc. over .sp with both crates heading right and the spike up: csc over ..p, since a pass goes on behind what has moved
pub moves_on : after_movement (level 3 2 (toward 4 Right ∷ toward 4 Right ∷ floor ∷ floor ∷ toward 5 Up ∷ still 2 ∷ [])) ≡ level 3 2 (still 4 ∷ still 5 ∷ still 4 ∷ floor ∷ floor ∷ still 2 ∷ [])
moves_on = refl

-- ccc. with all crates heading right: in the end all have moved
pub moves_all : after_movement (level 4 1 (toward 4 Right ∷ toward 4 Right ∷ toward 4 Right ∷ floor ∷ [])) ≡ level 4 1 (floor ∷ still 4 ∷ still 4 ∷ still 4 ∷ [])
moves_all = refl

-- at the map's end, and by the action, nothing moves
pub stays_on_map : after_movement (level 2 1 (toward 4 Left ∷ toward 2 Action ∷ [])) ≡ level 2 1 (still 4 ∷ still 2 ∷ [])
stays_on_map = refl

-- pc with the press right: only the player heads there
pub pushes_player : pushed_level (2 ∷ []) Right (level 2 1 (still 2 ∷ still 4 ∷ [])) ≡ level 2 1 (toward 2 Right ∷ still 4 ∷ [])
pushes_player = refl

pub reads : stands (level 2 1 (toward 2 Right ∷ still 4 ∷ [])) 0 0 2 ≡ true
reads = refl

pub reads_none : stands (level 2 1 (toward 2 Right ∷ still 4 ∷ [])) 0 1 2 ≡ false
reads_none = refl

pub reads_heading : heading_at (level 2 1 (toward 2 Right ∷ still 4 ∷ [])) 0 0 2 ≡ Some Right
reads_heading = refl

pub differs : same_grid (level 2 1 (toward 2 Right ∷ still 4 ∷ [])) (level 2 1 (still 2 ∷ still 4 ∷ [])) ≡ false
differs = refl

abbrev named : ℕ → List ℕ → Denotation
named number members = record { kind = Object; members = members; number = number }

-- a game of these objects, of whose background two are members, with the glyphs "." for the first background, "," for the other, "p"
-- for the player, "@" for the player with the other background, and "x" for a crate and then a wall
abbrev game : Drawing → GameParts
game drawing = record {
  objects = codes "ground" ∷ codes "grass" ∷ codes "player" ∷ codes "wall" ∷ codes "crate" ∷ codes "spike" ∷ [];
  names = codes "background" ∷ codes "player" ∷ codes "." ∷ codes "," ∷ codes "p" ∷ codes "@" ∷ codes "x" ∷ [];
  values = named 0 (0 ∷ 1 ∷ []) ∷ named 1 (2 ∷ []) ∷ named 2 (0 ∷ []) ∷ named 3 (1 ∷ []) ∷ named 1 (2 ∷ []) ∷ named 5 (2 ∷ 1 ∷ []) ∷ named 6 (4 ∷ 3 ∷ []) ∷ [];
  layers = layers;
  depth = 2;
  rules = [];
  wins = [];
  levels = Message ∷ Level drawing ∷ [];
  options = record { run_rules_on_level_start = false; require_player_movement = false };
}

abbrev drawing : ℕ → ℕ → List ℕ → Drawing
drawing width height cells = record { width = width; height = height; cells = cells }

-- pp: no cell has a background, so each gets its first object
pub lays_first_object : level_of_entry (game (drawing 2 1 (4 ∷ 4 ∷ []))) 1 ≡ level 2 1 (still 2 ∷ still 2 ∷ [])
lays_first_object = refl

-- p. over ,p: the first cell with a background, by columns, is the one with the other background
pub lays_first_background : level_of_entry (game (drawing 2 2 (4 ∷ 2 ∷ 3 ∷ 4 ∷ []))) 1 ≡ level 2 2 ((thing 1 None ∷ thing 2 None ∷ []) ∷ floor ∷ (thing 1 None ∷ None ∷ []) ∷ (thing 1 None ∷ thing 2 None ∷ []) ∷ [])
lays_first_background = refl

-- x@: of the crate and the wall, which share a layer, the later stands; the background of the second cell is laid in the first
pub later_replaces : level_of_entry (game (drawing 2 1 (6 ∷ 5 ∷ []))) 1 ≡ level 2 1 ((thing 1 None ∷ thing 3 None ∷ []) ∷ (thing 1 None ∷ thing 2 None ∷ []) ∷ [])
later_replaces = refl

pub knows_players : players_of (game (drawing 1 1 (4 ∷ []))) ≡ 2 ∷ []
knows_players = refl
