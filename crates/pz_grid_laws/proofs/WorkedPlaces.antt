-- Worked cases of places and of rewriting.
use Rattle.pz_grid_laws.proofs.Common.{Absent, Action, Commands, Dir, Down, Grid, Instance, Item, Left, List, None, Ok, Option, Piece, Place, Present, Right, RuleRow, Some, Toward, Up, Word, [], false, get_or, in_rewrite, places, refl, after_rewriting, rewritten_cell, places_or_limit, still_matches, true, ℕ, ◌∷◌, ◌≡◌}

-- objects by number: 0 the background, alone on its layer; 1 a target, alone on its own; 2 the player, 3 a wall, 4 a crate and
-- 5 a spike on one layer; 6 a mark, alone on the last
abbrev piece : ℕ → Option Dir → Option Piece
piece object heading = Some (record { object = object; heading = heading })

abbrev cell : Option Piece → Option Piece → List (Option Piece)
cell here mark = piece 0 None ∷ None ∷ here ∷ mark ∷ []

abbrev pub bare : List (Option Piece)
bare = cell None None

abbrev crate : List (Option Piece)
crate = cell (piece 4 None) None

abbrev pub player : List (Option Piece)
player = cell (piece 2 None) None

abbrev pub wall : List (Option Piece)
wall = cell (piece 3 None) None

abbrev layers : List ℕ
layers = 0 ∷ 1 ∷ 2 ∷ 2 ∷ 2 ∷ 2 ∷ 3 ∷ []

abbrev pub level : ℕ → ℕ → List (List (Option Piece)) → Grid
level width height cells = record { width = width; height = height; depth = 4; layers = layers; cells = cells }

abbrev pub item : ℕ → Word → Item
item object word = record { object = object; layer = get_or layers object 0; word = word }

abbrev pub only : ℕ → List Item
only object = item object Present ∷ []

abbrev pub at : ℕ → ℕ → ℕ → Place
at x y gap = record { x = x; y = y; gap = gap }

abbrev pub row : List (List Item) → RuleRow
row cells = record { cells = cells; gap_at = None }

-- the level c.c/cc.
abbrev crates : Grid
crates = level 3 2 (crate ∷ bare ∷ crate ∷ crate ∷ crate ∷ bare ∷ [])

abbrev one : RuleRow
one = row (only 4 ∷ [])

abbrev two : RuleRow
two = row (only 4 ∷ only 4 ∷ [])

-- [ Crate | ... | Crate ]
abbrev apart : RuleRow
apart = record { cells = only 4 ∷ only 4 ∷ []; gap_at = Some 1 }

pub one_right : places crates one Right ≡ at 0 0 0 ∷ at 2 0 0 ∷ at 0 1 0 ∷ at 1 1 0 ∷ []
one_right = refl

pub one_up : places crates one Up ≡ at 0 0 0 ∷ at 0 1 0 ∷ at 1 1 0 ∷ at 2 0 0 ∷ []
one_up = refl

pub two_right : places crates two Right ≡ at 0 1 0 ∷ []
two_right = refl

pub two_left : places crates two Left ≡ at 1 1 0 ∷ []
two_left = refl

pub two_up : places crates two Up ≡ at 0 1 0 ∷ []
two_up = refl

pub two_down : places crates two Down ≡ at 0 0 0 ∷ []
two_down = refl

pub apart_right : places crates apart Right ≡ at 0 0 1 ∷ at 0 1 0 ∷ []
apart_right = refl

-- the action scans nothing
pub one_action : places crates one Action ≡ []
one_action = refl

-- the search gives the same, since they are few
pub searched_right : places_or_limit crates two Right ≡ Ok (at 0 1 0 ∷ [])
unfolding places_or_limit
searched_right = refl

-- right [ Player | ... | Wall ] on p#: the gap may have no cell
pub next_to_wall : places (level 2 1 (player ∷ wall ∷ [])) (record { cells = only 2 ∷ only 3 ∷ []; gap_at = Some 1 }) Right ≡ at 0 0 0 ∷ []
next_to_wall = refl

abbrev no_command : Commands
no_command = record { 0 = 0 }

-- right [ Player no Mark | ... | Wall ] -> [ Player Mark | ... | Crate ]
abbrev marking : Instance
marking = record {
  scan = Right;
  left = record { cells = (item 2 Present ∷ item 6 Absent ∷ []) ∷ only 3 ∷ []; gap_at = Some 1 } ∷ [];
  right = record { cells = (item 2 Present ∷ item 6 Present ∷ []) ∷ only 4 ∷ []; gap_at = Some 1 } ∷ [];
  commands = no_command;
  below = 0;
}

-- the level p#.#
abbrev walls : Grid
walls = level 4 1 (player ∷ wall ∷ bare ∷ wall ∷ [])

-- the level after the first place is rewritten
abbrev marked : Grid
marked = level 4 1 (cell (piece 2 None) (piece 6 None) ∷ crate ∷ bare ∷ wall ∷ [])

pub marking_places : places walls (record { cells = (item 2 Present ∷ item 6 Absent ∷ []) ∷ only 3 ∷ []; gap_at = Some 1 }) Right ≡ at 0 0 0 ∷ at 0 0 2 ∷ []
marking_places = refl

pub marking_first : after_rewriting marking (at 0 0 0 ∷ []) (in_rewrite walls false) ≡ in_rewrite marked true
marking_first = refl

-- the second place no longer holds then
pub marking_second : still_matches marked marking (at 0 0 2 ∷ []) ≡ false
marking_second = refl

-- no match: a gap for a row without one, a wrong number of places, a cell off the map
pub gap_without : still_matches crates (record { scan = Right; left = one ∷ []; right = []; commands = no_command; below = 0 }) (at 0 0 1 ∷ []) ≡ false
gap_without = refl

pub too_few : still_matches crates (record { scan = Right; left = one ∷ []; right = []; commands = no_command; below = 0 }) [] ≡ false
too_few = refl

pub off_the_map : still_matches crates (record { scan = Right; left = one ∷ []; right = []; commands = no_command; below = 0 }) (at 3 0 0 ∷ []) ≡ false
off_the_map = refl

-- [ Player ] -> [ Crate ] on a player that heads right: the crate heads where what stood there did
pub keeps_the_direction : rewritten_cell (only 2) (only 4) (cell (piece 2 (Some Right)) None) ≡ cell (piece 4 (Some Right)) None
keeps_the_direction = refl

-- [ down Player ] -> [ ] and then [ no Crate ] -> [ Crate ]: what is removed leaves no direction behind
pub leaves_no_direction : rewritten_cell (item 4 Absent ∷ []) (only 4) (rewritten_cell (item 2 (Toward Down) ∷ []) [] (cell (piece 2 (Some Down)) None)) ≡ crate
leaves_no_direction = refl

-- [ right Player ] -> [ Crate ]: the left has a movement word on the layer, so the crate is still
pub is_stilled : rewritten_cell (item 2 (Toward Right) ∷ []) (only 4) (cell (piece 2 (Some Right)) None) ≡ crate
is_stilled = refl

-- [ Player ] -> [ Player left Mark ]: a word gives its direction, and what stays heads where it did
pub takes_the_word : rewritten_cell (only 2) (item 2 Present ∷ item 6 (Toward Left) ∷ []) (cell (piece 2 (Some Up)) None) ≡ cell (piece 2 (Some Up)) (piece 6 (Some Left))
takes_the_word = refl

-- [ Player ] -> [ Player no Mark ]: what the right has under `no` is removed, what no side names stays
pub removes_under_no : rewritten_cell (only 2) (item 2 Present ∷ item 6 Absent ∷ []) (cell (piece 2 None) (piece 6 (Some Left))) ≡ player
removes_under_no = refl

-- a rewriting that gives the same cell hasn't changed anything
pub changes_nothing : after_rewriting (record { scan = Right; left = one ∷ []; right = one ∷ []; commands = no_command; below = 0 }) (at 0 0 0 ∷ []) (in_rewrite crates false) ≡ in_rewrite crates false
changes_nothing = refl
