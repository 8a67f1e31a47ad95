-- A cell of a level in words, and what is seen of it.
use Rattle.pz_sheet.proofs.Common.{IsLayering, Layering, ◌≡◌, ℕ, ◌+◌, ◌*◌, ◌<◌, ◌≤◌, List, [], Option, Some, None, Bool, true, false, not, set, length, get_or, ap, sym, ◌∙◌, refl, subst, arith, get_or-set_same, get_or-set_other, IfSome, MatchOption, lt-ltb, mul-add-lt, cases_eq, length-map, length-set, get_or-map, get_or_default, set-get_or, length-map-range_with_len, Dir, Cell, Piece, same_cell, same_cell_is, Item, IsCell, IsOnLayer, standing, place_of, on_its_layer, standing_by, Grid, BareState, IsLawful, cell_at, place_at, with_place, HeadingSets, IsWider, pieces_of_cell, IsSound, grid_of, IsNoted, IsStored}
use Rattle.std.proofs.lemmas.List.Elements.{All-map, All-set}
use Rattle.pz_game.specs.declared.limits.TheConstants.{MOST_LAYERS, MOST_OBJECTS}
use Rattle.pz_cells.specs.declared.piece.Mover.{Mover}
use Rattle.pz_cells.specs.Cell.{IsNextMover}
use Rattle.pz_cells.specs.Rewriting.{rewritten_cell}
use Rattle.pz_sheet.specs.Standing.{standing_at}
use Rattle.pz_sheet.specs.Rewriting.{with_rewritten}

-- a test that cannot pass fails
pub only_false : (b : Bool) → (b ≡ true → false ≡ true) → b ≡ false
only_false true h = sym (h refl)
only_false false h = refl

-- a number of a seen cell is one of a cell in words
pub seen_within : (N width height : ℕ) (layering : Layering) (cells : List (Cell N)) (grid : Grid) (at : ℕ) → grid_of width height layering cells ≡ grid → at < length grid.cells → at < length cells
seen_within N width height layering cells grid at e h = grind (arith, e, length-map cells (pieces_of_cell layering))

-- and of a cell of the lines
pub within_lines : (columns rows width height count at : ℕ) → columns ≡ width → rows ≡ height → count ≡ width * height → at < count → at < columns * rows
within_lines columns rows width height count at wide high covers within = grind arith

-- a position of the map is one of a cell
pub cell_in : (width height count x y : ℕ) → count ≡ width * height → x < width → y < height → y * width + x < count
cell_in width height count x y covers x_in y_in = omega (arith, mul-add-lt y width x height y_in x_in)

-- what is seen of the cell of a number
pub seen_at : (N width height : ℕ) (layering : Layering) (cells : List (Cell N)) (grid : Grid) (at : ℕ) (cell : Cell N) → grid_of width height layering cells ≡ grid → at < length cells → cell ≡ get_or cells at cell
    → pieces_of_cell layering cell ≡ get_or grid.cells at []
seen_at N width height layering cells grid at cell e h is = grind (arith, e, get_or-map (pieces_of_cell layering) cells at cell [] h)

-- lawful words are seen as a cell of the game
pub cell_seen : (N : ℕ) (layering : Layering) (cell : Cell N) → IsSound layering cell → IsCell layering.depth layering.layers (pieces_of_cell layering cell)
cell_seen N layering cell sound = record { deep = length-map-range_with_len (place_of layering.layers cell.objects cell.movement) 0 layering.depth; on_layers = on_its_layer layering.depth layering.layers cell.objects cell.movement sound }

-- a level in words is seen as a lawful one
pub lawful_seen : (N width height : ℕ) (layering : Layering) (cells : List (Cell N)) (notes : HeadingSets) → IsStored N width height layering cells notes → IsLawful (grid_of width height layering cells)
lawful_seen N width height layering cells headings s = record {
  covers = length-map cells (pieces_of_cell layering) ∙ s.covers;
  size = s.size;
  shallow = s.law.shallow;
  few = s.law.few;
  layered = s.law.layered;
  stacked = All-map (IsCell layering.depth layering.layers) (pieces_of_cell layering) cells (λ k d within. cell_seen N layering (get_or cells k d) (s.sound k d within));
}

-- and so is the level whose value that is
pub lawful_here : (N width height : ℕ) (layering : Layering) (cells : List (Cell N)) (notes : HeadingSets) (level : BareState) → IsStored N width height layering cells notes → record { grid = grid_of width height layering cells } ≡ level → IsLawful level.grid
lawful_here N width height layering cells notes level s is = subst IsLawful (ap (λ (l : BareState). l.grid) is) (lawful_seen N width height layering cells notes s)

pub low_place : (layers : List ℕ) (layer : ℕ) (place : Option Piece) → length layers ≤ MOST_OBJECTS → IsOnLayer layers layer place → IfSome place (λ piece. piece.object < MOST_OBJECTS)
low_place layers layer place few on = grind arith

pub low_mover : (N : ℕ) (layering : Layering) (cell : List (Option Piece)) (from : ℕ) (mover : Option Mover) → IsLayering N layering → IsCell layering.depth layering.layers cell → IsNextMover cell from mover → IfSome mover (λ m. (m.layer < layering.depth) × (m.layer < MOST_LAYERS) × (m.object < MOST_OBJECTS))
low_mover N layering cell from mover law is next = grind (arith, is.on_layers, law.layered)

-- a position on the map
pub standing_on_map : (grid : Grid) (x y object : ℕ) → x < grid.width → y < grid.height → standing_at grid x y object ≡ standing (cell_at grid x y) object
standing_on_map grid x y object wide high = grind (arith, lt-ltb x grid.width wide, lt-ltb y grid.height high)

-- what a cell's piece says
pub piece_seen : (there : Bool) (heading : Option Dir) (object : ℕ) (stand : Option (Option Dir)) (piece : Option Piece) → stand ≡ standing_by there heading → MatchOption piece (there ≡ false) (λ p. (there ≡ true) × (p.object ≡ object) × (p.heading ≡ heading)) → MatchOption piece (stand ≡ None) (λ p. stand ≡ Some p.heading)
piece_seen there heading object stand piece e h = grind arith

-- ---- one cell anew
pub still_noted : (N width index : ℕ) (old new : HeadingSets) (cell : Cell N) → IsWider old new → IsNoted N width old index cell → IsNoted N width new index cell
still_noted N width index old new cell wider is = grind arith

-- one more cell is noted
pub noted_more : (N width : ℕ) (old new : HeadingSets) (cells : List (Cell N)) (index : ℕ) (here : Cell N) → index < length cells → here ≡ get_or cells index here → IsWider old new → IsNoted N width new index here
    → ((number : ℕ) (cell : Cell N) → number < index → IsNoted N width old number (get_or cells number cell)) → (number : ℕ) (cell : Cell N) → number < index + 1 → IsNoted N width new number (get_or cells number cell)
noted_more N width old new cells index here within is wider noted before number cell below = grind (arith, cases_eq number index, get_or_default cells index here cell, still_noted N width number old new (get_or cells number cell), before number cell)

pub stored_set : (N width height : ℕ) (layering : Layering) (cells : List (Cell N)) (at : ℕ) (new : Cell N) (notes next : HeadingSets) → IsStored N width height layering cells notes → IsSound layering new → IsNoted N (length notes.columns) next at new → IsWider notes next → IsStored N width height layering (set cells at new) next
stored_set N width height layering cells at new notes next s sound here wider = record {
  size = s.size;
  law = s.law;
  covers = length-set cells at new ∙ s.covers;
  sound = All-set (IsSound layering) cells at new sound s.sound;
  noted = record {
    row_count = wider.row_count ∙ s.noted.row_count;
    column_count = wider.column_count ∙ s.noted.column_count;
    each = λ index cell within. grind (arith, cases_eq index at, length-set cells at new, get_or-set_same cells at new cell, get_or-set_other cells at index new cell, s.noted.column_count, here, still_noted N width index notes next (get_or cells index cell) wider, s.noted.each index cell);
  };
}

-- what was put stands there
pub placed_there : (grid : Grid) (x y layer : ℕ) (place : Option Piece) → y * grid.width + x < length grid.cells → layer < length (cell_at grid x y) → place_at (with_place grid x y layer place) x y layer ≡ place
placed_there grid x y layer place within deep = grind (arith, get_or-set_same grid.cells (y * grid.width + x) (set (cell_at grid x y) layer place) [] within, get_or-set_same (cell_at grid x y) layer place None deep)

-- a rewriting that gives the same cell changes nothing
pub unrewritten : (grid : Grid) (x y : ℕ) (left right : List Item) (here : List (Option Piece)) → here ≡ cell_at grid x y → not (same_cell (rewritten_cell left right here) here) ≡ false → grid ≡ with_rewritten grid x y left right
unrewritten grid x y left right here is same = grind (arith, set-get_or grid.cells (y * grid.width + x) [], same_cell_is (rewritten_cell left right here) here)
