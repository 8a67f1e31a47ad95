-- Worked cases of levels: loading, the player's input, movement, what holds in a cell, rewriting, and sameness.
use Rattle.pz_grid_laws.proofs.Common.{Absent, Action, Aggregate, Bool, Commands, Denotation, Dir, Down, Drawing, GameParts, Grid, Instance, Item, Kind, Left, List, None, Object, Option, Piece, Place, Present, Property, Right, RuleRow, Some, Still, Toward, Up, Word, [], codes, false, get_or, holds_each, holds_one, in_rewrite, length, loaded_from, map, moving, pass_of, pattern_holds, pushed_level, refl, after_movement, after_rewriting, rewritten_cell, same_grid, standing_at, stands, true, ℕ, ◌∷◌, ◌≡◌}

-- objects by number: 0 grass and 1 sand on the background's layer; 2 the player, 3 a crate and 4 a wall on one layer; 5 a mark,
-- alone on the last
abbrev layers : List ℕ
layers = 0 ∷ 0 ∷ 1 ∷ 1 ∷ 1 ∷ 2 ∷ []

abbrev still : ℕ → Option Piece
still object = Some (record { object = object; heading = None })

abbrev heads : ℕ → Dir → Option Piece
heads object dir = Some (record { object = object; heading = Some dir })

-- a cell with grass, and what stands on it
abbrev on_grass : Option Piece → List (Option Piece)
on_grass here = still 0 ∷ here ∷ None ∷ []

abbrev bare : List (Option Piece)
bare = on_grass None

abbrev player : List (Option Piece)
player = on_grass (still 2)

abbrev crate : List (Option Piece)
crate = on_grass (still 3)

abbrev wall : List (Option Piece)
wall = on_grass (still 4)

abbrev level : ℕ → ℕ → List (List (Option Piece)) → Grid
level width height cells = record { width = width; height = height; depth = 3; layers = layers; cells = cells }

-- a level of one row, and one of one column
abbrev strip : List (List (Option Piece)) → Grid
strip cells = level (length cells) 1 cells

abbrev column : List (List (Option Piece)) → Grid
column cells = level 1 (length cells) cells

-- loading

abbrev denotes : Kind → List ℕ → ℕ → Denotation
denotes kind members number = record { kind = kind; members = members; number = number }

-- `background` is sand or grass; @ is a crate and a mark, & the player and a crate
abbrev game : GameParts
game = record {
  objects = codes "grass" ∷ codes "sand" ∷ codes "player" ∷ codes "crate" ∷ codes "wall" ∷ codes "mark" ∷ [];
  names = codes "grass" ∷ codes "sand" ∷ codes "player" ∷ codes "crate" ∷ codes "wall" ∷ codes "mark"
      ∷ codes "background" ∷ codes "@" ∷ codes "&" ∷ [];
  values = denotes Object (0 ∷ []) 0 ∷ denotes Object (1 ∷ []) 1 ∷ denotes Object (2 ∷ []) 2 ∷ denotes Object (3 ∷ []) 3 ∷ denotes Object (4 ∷ []) 4
      ∷ denotes Object (5 ∷ []) 5 ∷ denotes Property (1 ∷ 0 ∷ []) 6 ∷ denotes Aggregate (3 ∷ 5 ∷ []) 7 ∷ denotes Aggregate (2 ∷ 3 ∷ []) 8 ∷ [];
  layers = layers;
  depth = 3;
  rules = [];
  wins = [];
  levels = [];
  options = record { run_rules_on_level_start = false; require_player_movement = false };
}

abbrev draws : ℕ → ℕ → List ℕ → Drawing
draws width height glyphs = record { width = width; height = height; cells = glyphs }

-- an aggregate puts each of its objects on its layer; of two on one layer the later stands
aggregates : loaded_from game (draws 3 1 (0 ∷ 7 ∷ 8 ∷ [])) ≡ strip (bare ∷ (still 0 ∷ still 3 ∷ still 5 ∷ []) ∷ crate ∷ [])
aggregates = refl

-- Crate and grass above sand and the player: by columns the first cell with a background is that of the sand, though the grass
-- stands in the first row. The cell of the grass keeps it.
first_background : loaded_from game (draws 2 2 (3 ∷ 0 ∷ 1 ∷ 2 ∷ []))
    ≡ level 2 2 ((still 1 ∷ still 3 ∷ None ∷ []) ∷ bare ∷ (still 1 ∷ None ∷ None ∷ []) ∷ (still 1 ∷ still 2 ∷ None ∷ []) ∷ [])
first_background = refl

-- if no cell has a background, each gets the first member of `background`: sand
no_background : loaded_from game (draws 2 1 (2 ∷ 5 ∷ [])) ≡ strip ((still 1 ∷ still 2 ∷ None ∷ []) ∷ (still 1 ∷ None ∷ still 5 ∷ []) ∷ [])
no_background = refl

-- a press gives its direction to the player

-- each player gets the direction, in place of the one it had; a crate keeps its own
pushes_each_player : pushed_level (2 ∷ []) Up (strip (on_grass (heads 2 Right) ∷ on_grass (heads 3 Down) ∷ player ∷ []))
    ≡ strip (on_grass (heads 2 Up) ∷ on_grass (heads 3 Down) ∷ on_grass (heads 2 Up) ∷ [])
pushes_each_player = refl

-- if the player is a property, each of its members is a player
pushes_each_member : pushed_level (2 ∷ 3 ∷ []) Action (strip (player ∷ crate ∷ wall ∷ []))
    ≡ strip (on_grass (heads 2 Action) ∷ on_grass (heads 3 Action) ∷ wall ∷ [])
pushes_each_member = refl

-- the movement

-- two in a line move together: the first pass moves the crate, the second the player behind it
chain : after_movement (strip (on_grass (heads 2 Right) ∷ on_grass (heads 3 Right) ∷ bare ∷ [])) ≡ strip (bare ∷ player ∷ crate ∷ [])
chain = refl

chain_after_a_pass : (pass_of (strip (on_grass (heads 2 Right) ∷ on_grass (heads 3 Right) ∷ bare ∷ []))).grid
    ≡ strip (on_grass (heads 2 Right) ∷ bare ∷ crate ∷ [])
chain_after_a_pass = refl

-- against a wall neither moves, and both are still
blocked_chain : after_movement (strip (on_grass (heads 2 Right) ∷ on_grass (heads 3 Right) ∷ wall ∷ [])) ≡ strip (player ∷ crate ∷ wall ∷ [])
blocked_chain = refl

-- a moved object is still: it doesn't go on in the same pass or a later one
one_cell_only : after_movement (strip (on_grass (heads 2 Right) ∷ bare ∷ bare ∷ [])) ≡ strip (bare ∷ player ∷ bare ∷ [])
one_cell_only = refl

-- the map ends, and the action moves nothing
edge_of_the_map : after_movement (column (on_grass (heads 2 Up) ∷ on_grass (heads 3 Action) ∷ bare ∷ [])) ≡ column (player ∷ crate ∷ bare ∷ [])
edge_of_the_map = refl

-- both head for the cell between them: the one in the column further left gets it
left_column_first : after_movement (strip (on_grass (heads 3 Right) ∷ bare ∷ on_grass (heads 2 Left) ∷ [])) ≡ strip (bare ∷ crate ∷ player ∷ [])
left_column_first = refl

-- in one column the upper gets it
upper_first : after_movement (column (on_grass (heads 3 Down) ∷ bare ∷ on_grass (heads 2 Up) ∷ [])) ≡ column (bare ∷ crate ∷ player ∷ [])
upper_first = refl

-- two that head into each other stay
no_swap : after_movement (strip (on_grass (heads 2 Right) ∷ on_grass (heads 3 Left) ∷ [])) ≡ strip (player ∷ crate ∷ [])
no_swap = refl

-- a mark is on another layer: it is in nobody's way
other_layer : after_movement (strip (on_grass (heads 2 Right) ∷ (still 0 ∷ None ∷ still 5 ∷ []) ∷ []))
    ≡ strip (bare ∷ (still 0 ∷ still 2 ∷ still 5 ∷ []) ∷ [])
other_layer = refl

-- how many head somewhere: the action counts, what is still doesn't
heading_count : moving (strip (on_grass (heads 2 Action) ∷ crate ∷ (heads 0 Up ∷ heads 3 Left ∷ None ∷ []) ∷ [])) ≡ 3
heading_count = refl

-- what stands where

-- a position off the map holds nothing, though its cell number is one of the map's
off_the_map : stands (level 2 2 (bare ∷ bare ∷ crate ∷ bare ∷ [])) 2 0 3 ≡ false
off_the_map = refl

where_it_heads : standing_at (level 2 2 (bare ∷ bare ∷ on_grass (heads 3 Left) ∷ bare ∷ [])) 0 1 3 ≡ Some (Some Left)
where_it_heads = refl

-- a crate without a mark: one of the two is there, not each
one_or_each : holds_one (3 ∷ 5 ∷ []) crate ∷ holds_each (3 ∷ 5 ∷ []) crate ∷ [] ≡ true ∷ false ∷ []
one_or_each = refl

-- an empty list of objects: no cell holds one of them, and each cell holds each of them
no_objects : holds_one [] crate ∷ holds_each [] crate ∷ [] ≡ false ∷ true ∷ []
no_objects = refl

-- what holds in a cell

abbrev item : ℕ → Word → Item
item object word = record { object = object; layer = get_or layers object 0; word = word }

abbrev holds_with : Word → List (Option Piece) → Bool
holds_with word cell = pattern_holds cell (item 3 word ∷ [])

-- a crate that heads left, a crate that is still, no crate: a name alone holds however the crate moves
names_alone : map (holds_with Present) (on_grass (heads 3 Left) ∷ crate ∷ player ∷ []) ≡ true ∷ true ∷ false ∷ []
names_alone = refl

stationary_words : map (holds_with Still) (on_grass (heads 3 Left) ∷ crate ∷ player ∷ []) ≡ false ∷ true ∷ false ∷ []
stationary_words = refl

directions : map (holds_with (Toward Left)) (on_grass (heads 3 Left) ∷ on_grass (heads 3 Right) ∷ crate ∷ player ∷ [])
    ≡ true ∷ false ∷ false ∷ false ∷ []
directions = refl

words_under_no : map (holds_with Absent) (on_grass (heads 3 Left) ∷ crate ∷ player ∷ []) ≡ false ∷ false ∷ true ∷ []
words_under_no = refl

-- an empty cell of a rule holds everywhere
empty_pattern : map (λ cell. pattern_holds cell []) (bare ∷ on_grass (heads 3 Up) ∷ []) ≡ true ∷ true ∷ []
empty_pattern = refl

-- rewriting

-- [ right Mark Player ] -> [ Mark Crate ]: the word is on the mark's layer, so the mark is still, and the crate heads where the
-- player did
word_on_another_layer : rewritten_cell (item 5 (Toward Right) ∷ item 2 Present ∷ []) (item 5 Present ∷ item 3 Present ∷ [])
    (still 0 ∷ heads 2 Up ∷ heads 5 Right ∷ [])
    ≡ still 0 ∷ heads 3 Up ∷ still 5 ∷ []
word_on_another_layer = refl

-- [ Player ] -> [ stationary Player ]
made_still : rewritten_cell (item 2 Present ∷ []) (item 2 Still ∷ []) (on_grass (heads 2 Up)) ≡ player
made_still = refl

abbrev no_command : Commands
no_command = record { 0 = 0 }

abbrev one_cell : List Item → RuleRow
one_cell items = record { cells = items ∷ []; gap_at = None }

-- two rows of one cell each, both at the first cell
abbrev both_here : List Place
both_here = record { x = 0; y = 0; gap = 0 } ∷ record { x = 0; y = 0; gap = 0 } ∷ []

abbrev two_rows : List Item → List Item → List Item → List Item → Instance
two_rows left more right others = record {
  scan = Up;
  left = one_cell left ∷ one_cell more ∷ [];
  right = one_cell right ∷ one_cell others ∷ [];
  commands = no_command;
  below = 0;
}

-- [ Player ] [ Player ] -> [ Crate ] [ ] on one cell: the second row finds no player there any more, and the crate stays
second_row_finds_the_crate : after_rewriting (two_rows (item 2 Present ∷ []) (item 2 Present ∷ []) (item 3 Present ∷ []) []) both_here
    (in_rewrite (strip (player ∷ [])) false)
    ≡ in_rewrite (strip (crate ∷ [])) true
second_row_finds_the_crate = refl

-- [ Player ] [ ] -> [ Crate ] [ Player ] on one cell: the second row gives the cell back, but it counts as changed
changed_and_back : after_rewriting (two_rows (item 2 Present ∷ []) [] (item 3 Present ∷ []) (item 2 Present ∷ [])) both_here
    (in_rewrite (strip (player ∷ [])) false)
    ≡ in_rewrite (strip (player ∷ [])) true
changed_and_back = refl

-- sameness

-- levels that differ only by a direction are not the same
other_direction : same_grid (strip (player ∷ [])) (strip (on_grass (heads 2 Up) ∷ [])) ≡ false
other_direction = refl

-- nor are a row and a column of the same cells
other_shape : same_grid (strip (player ∷ bare ∷ [])) (column (player ∷ bare ∷ [])) ≡ false
other_shape = refl

same_again : same_grid (strip (player ∷ on_grass (heads 3 Left) ∷ [])) (strip (player ∷ on_grass (heads 3 Left) ∷ [])) ≡ true
same_again = refl
