-- Worked cases of level texts, and of levels that are as they were recorded.
use Rattle.pz_level_text.proofs.Common.{◌≡◌, ℕ, List, [], ◌∷◌, Option, Some, None, true, false, refl, codes, map, GameParts, Grid, with_name, same_set, equals_recorded, set_text, standing_names, with_cell, piece, text_of_level, cells_in, has_names}
use Rattle.std.specs.Fmt.{digits}
use Rattle.pz_cells.specs.declared.piece.Piece.{Piece}
use Rattle.pz_record.specs.declared.order.Order.TheVariants.{Rows, Columns}

-- the texts of sets of objects

-- the set of the objects 0 and 2 is the word 5; its text has their names in the order of their bytes
two_objects : set_text (codes "player" ∷ codes "crate" ∷ codes "background" ∷ []) (5 ∷ []) ≡ codes "background player"
unfolding with_name
two_objects = refl

no_objects : set_text (codes "player" ∷ codes "crate" ∷ []) (0 ∷ []) ≡ []
unfolding with_name
no_objects = refl

-- sets of objects beside recorded names

-- the order of the names doesn't matter
named_so : has_names (codes "player" ∷ codes "crate" ∷ codes "background" ∷ []) (5 ∷ []) (codes "background" ∷ codes "player" ∷ []) ≡ true
unfolding with_name same_set
named_so = refl

-- a name less, and a name more
not_all_named : map (has_names (codes "player" ∷ codes "crate" ∷ codes "background" ∷ []) (5 ∷ []))
    ((codes "background" ∷ []) ∷ (codes "background" ∷ codes "crate" ∷ codes "player" ∷ []) ∷ []) ≡ false ∷ false ∷ []
unfolding with_name same_set
not_all_named = refl

-- the text of a level

-- the objects 0 player and 1 crate on one layer, 2 the background on another
abbrev game : GameParts
game = record {
  objects = codes "player" ∷ codes "crate" ∷ codes "background" ∷ [];
  names = codes "player" ∷ codes "crate" ∷ codes "background" ∷ [];
  values = [];
  layers = 1 ∷ 1 ∷ 0 ∷ [];
  depth = 2;
  rules = [];
  wins = [];
  levels = [];
  options = record { run_rules_on_level_start = false; require_player_movement = false };
}

abbrev still : ℕ → Option Piece
still k = Some (record { object = k; heading = None })

abbrev player : List (Option Piece)
player = still 2 ∷ still 0 ∷ []

abbrev crate : List (Option Piece)
crate = still 2 ∷ still 1 ∷ []

abbrev bare : List (Option Piece)
bare = still 2 ∷ None ∷ []

abbrev level : ℕ → ℕ → List (List (Option Piece)) → Grid
level width height cells = record { width = width; height = height; depth = 2; layers = 1 ∷ 1 ∷ 0 ∷ []; cells = cells }

-- a row of a crate and two bare cells, and one of a bare cell, a crate and the player
abbrev six : Grid
six = level 3 2 (crate ∷ bare ∷ bare ∷ bare ∷ crate ∷ player ∷ [])

-- row by row; the names of a cell are sorted, whatever the order of the objects
row_text : text_of_level game Rows six ≡ codes "background crate:0,background:1,1,\n1,0,background player:2,\n"
unfolding text_of_level standing_names with_name with_cell piece digits
row_text = refl

-- column by column, and still a line break after every three numbers, the width
column_text : text_of_level game Columns six ≡ codes "background crate:0,background:1,1,\n0,1,background player:2,\n"
unfolding text_of_level standing_names with_name with_cell piece digits
column_text = refl

-- cells without an object
no_object : text_of_level game Rows (level 1 2 ((None ∷ None ∷ []) ∷ (None ∷ None ∷ []) ∷ [])) ≡ codes ":0,\n0,\n"
unfolding text_of_level standing_names with_name with_cell piece digits
no_object = refl

-- a level of three columns and two rows: its cells in the order of columns, each by its column and its row
by_columns : cells_in Columns six ≡ (0, 0) ∷ (0, 1) ∷ (1, 0) ∷ (1, 1) ∷ (2, 0) ∷ (2, 1) ∷ []
by_columns = refl

by_rows : cells_in Rows six ≡ (0, 0) ∷ (1, 0) ∷ (2, 0) ∷ (0, 1) ∷ (1, 1) ∷ (2, 1) ∷ []
by_rows = refl

-- a level of two columns and three rows
abbrev two_by_three : Grid
two_by_three = record { width = 2; height = 3; depth = 0; layers = []; cells = [] }

row_by_row : cells_in Rows two_by_three ≡ (0, 0) ∷ (1, 0) ∷ (0, 1) ∷ (1, 1) ∷ (0, 2) ∷ (1, 2) ∷ []
row_by_row = refl

column_by_column : cells_in Columns two_by_three ≡ (0, 0) ∷ (0, 1) ∷ (0, 2) ∷ (1, 0) ∷ (1, 1) ∷ (1, 2) ∷ []
column_by_column = refl

-- a level as it was recorded

abbrev on_background : List ℕ → List (List ℕ)
on_background name = codes "background" ∷ name ∷ []

-- the names of the level's cells, by columns
abbrev recorded : List (List (List ℕ))
recorded = on_background (codes "crate") ∷ (codes "background" ∷ []) ∷ (codes "background" ∷ []) ∷ on_background (codes "crate")
    ∷ (codes "background" ∷ []) ∷ on_background (codes "player") ∷ []

-- in the order that it was recorded in, and not in the other
in_its_order : equals_recorded game Columns six recorded ≡ true
unfolding equals_recorded standing_names with_name same_set
in_its_order = refl

not_in_the_other : equals_recorded game Rows six recorded ≡ false
unfolding equals_recorded standing_names with_name same_set
not_in_the_other = refl

-- a recorded level of a cell less isn't the level
one_cell_less : equals_recorded game Rows (level 2 1 (bare ∷ bare ∷ [])) ((codes "background" ∷ []) ∷ []) ≡ false
unfolding equals_recorded standing_names with_name same_set
one_cell_less = refl

-- the width isn't compared: a row and a column of the same cells are both as recorded
shape_is_not_compared : map (λ grid. equals_recorded game Rows grid ((codes "background" ∷ []) ∷ on_background (codes "player") ∷ []))
    (level 2 1 (bare ∷ player ∷ []) ∷ level 1 2 (bare ∷ player ∷ []) ∷ [])
    ≡ true ∷ true ∷ []
unfolding equals_recorded standing_names with_name same_set
shape_is_not_compared = refl
