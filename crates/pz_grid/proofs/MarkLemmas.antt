-- Which objects stand in a cell and in a line, and how a level stays marked.
use Rattle.pz_grid.proofs.Common.{Any-from_list_any, Bool, Dir, Grid, IsMarked, IsMarkedAt, IsMore, Item, LevelState, List, Mover, None, Option, Piece, Some, [], arith, with_piece_moved, cell_at, column_of, eq-eqb, eqb-true, get_or, get_or-range_with_len, get_or-set_other, get_or-set_same, get_or_past, in_line, inl, inr, is_in, is_marked, kept, length, length-range_with_len, length-set, list_any, list_any_at, map, member, names_object, nat_eq, or_right, placed_on, range_with_len, refl, rewritten_cell, rewritten_place, row_of, set, stands_in_line, still_piece, still_place, suc, sym, true, with_place, zero, ℕ, ◌*◌, ◌+◌, ◌<◌, ◌||◌, ◌∙◌, ◌∷◌, ◌≡◌, ◌⊎◌}
use Rattle.std.proofs.lemmas.Nat.{mul-add-lt}
use Rattle.pz_sheet.specs.declared.line.Line.{Line}
use Rattle.pz_sheet.specs.Line.{line_length}
use Rattle.pz_sheet.specs.Pushing.{pushed_place}

-- a number passes a test if some number does
pub passes_from : (p : ℕ → Bool) (n : ℕ) → list_any p (range_with_len 0 n) ≡ true → (k : ℕ) × (k < n) × (p k ≡ true)
passes_from p n e =
    let any = Any-from_list_any p (range_with_len 0 n) e in
    let within : any.0 < n = omega (arith, any.2, length-range_with_len 0 n) in
    (any.0, within, grind (arith, any.3, get_or-range_with_len 0 n any.0 any.1))

-- ---- which objects are in a cell
pub is_in_cons : (first : Option Piece) (places : List (Option Piece)) (object : ℕ) → is_in (first ∷ places) object ≡ (is_in (first ∷ []) object || is_in places object)
is_in_cons first places object = grind arith

-- what stands on a layer of a cell is in the cell
pub is_in_at : (cell : List (Option Piece)) (layer object : ℕ) → is_in (get_or cell layer None ∷ []) object ≡ true → is_in cell object ≡ true
is_in_at [] layer object e = e
is_in_at (first ∷ places) zero object e = grind (arith, e, is_in_cons first places object)
is_in_at (first ∷ places) (suc layer) object e = grind (arith, e, is_in_cons first places object, is_in_at places layer object)

-- what a cell has once something is put there
pub has_put : (cell : List (Option Piece)) (layer : ℕ) (place : Option Piece) (object : ℕ) → is_in (set cell layer place) object ≡ true → (is_in (place ∷ []) object ≡ true) ⊎ (is_in cell object ≡ true)
has_put [] layer place object e = inr e
has_put (first ∷ places) zero place object e = grind (arith, e, is_in_cons place places object, is_in_cons first places object)
has_put (first ∷ places) (suc layer) place object e = grind (arith, e, is_in_cons first (set places layer place) object, is_in_cons first places object, has_put places layer place object)

-- a change of each place that leaves its object
abbrev pub KeepsObjects : (Option Piece → Option Piece) → Type 0
KeepsObjects f = (place : Option Piece) (object : ℕ) → is_in (f place ∷ []) object ≡ is_in (place ∷ []) object

pub is_in_map : (f : Option Piece → Option Piece) → KeepsObjects f → (cell : List (Option Piece)) (object : ℕ) → is_in (map f cell) object ≡ is_in cell object
is_in_map f same [] object = refl
is_in_map f same (first ∷ places) object = grind (arith, is_in_cons (f first) (map f places) object, same first object, is_in_map f same places object, is_in_cons first places object)

pub is_in_cells : (f : Option Piece → Option Piece) → KeepsObjects f → (cells : List (List (Option Piece))) (i object : ℕ) → is_in (get_or (map (map f) cells) i []) object ≡ is_in (get_or cells i []) object
is_in_cells f same [] i object = refl
is_in_cells f same (cell ∷ cells) zero object = is_in_map f same cell object
is_in_cells f same (cell ∷ cells) (suc i) object = is_in_cells f same cells i object

pub still_same : KeepsObjects still_place
still_same place object = grind arith

pub pushed_same : (players : List ℕ) (dir : Dir) → KeepsObjects (pushed_place players dir)
pushed_same players dir place object = grind arith

-- ---- what a rewritten cell has
is_in_made : (f : ℕ → Option Piece) (a n object : ℕ) → is_in (map f (range_with_len a n)) object ≡ list_any (λ (k : ℕ). is_in (f k ∷ []) object) (range_with_len a n)
is_in_made f a zero object = refl
is_in_made f a (suc n) object = grind (arith, is_in_cons (f a) (map f (range_with_len (a + 1) n)) object, is_in_made f (a + 1) n object)

placed_named : (layer object : ℕ) (right : List Item) (item : Item) → placed_on layer right ≡ Some item → nat_eq item.object object ≡ true → names_object object right ≡ true
placed_named layer object [] item e same = grind (arith, e)
placed_named layer object (first ∷ items) item e same = grind (arith, e, same, placed_named layer object items item)

kept_has : (left right : List Item) (here : Option Piece) (object : ℕ) → is_in (kept left right here ∷ []) object ≡ true → is_in (here ∷ []) object ≡ true
kept_has left right None object e = e
kept_has left right (Some piece) object e = grind (arith, e)

-- a rewritten cell has what it had, and what the right places
pub has_rewritten : (left right : List Item) (cell : List (Option Piece)) (object : ℕ) → is_in (rewritten_cell left right cell) object ≡ true → (names_object object right ≡ true) ⊎ (is_in cell object ≡ true)
has_rewritten left right cell object e =
    let f = λ (layer : ℕ). rewritten_place left right layer (get_or cell layer None) in
    let at = passes_from (λ k. is_in (f k ∷ []) object) (length cell) (sym (is_in_made f 0 (length cell) object) ∙ e) in
    grind (arith, at.2, is_in_at cell at.0 object, kept_has left right (get_or cell at.0 None) object, placed_named at.0 object right)

-- ---- a level whose cell is written
same_row : (width x y other_x other_y : ℕ) → x < width → other_x < width → other_y * width + other_x ≡ y * width + x → other_y ≡ y
same_row width x y other_x other_y p q e = grind (arith, p, q, e, mul-add-lt other_y width other_x y, mul-add-lt y width x other_y)

-- what a level has once a cell is written
pub level_has : (grid : Grid) (x y : ℕ) (new : List (Option Piece)) (other_x other_y object : ℕ) → x < grid.width → other_x < grid.width → is_in (get_or (set grid.cells (y * grid.width + x) new) (other_y * grid.width + other_x) []) object ≡ true → ((other_x ≡ x) × (other_y ≡ y) × (is_in new object ≡ true)) ⊎ (is_in (cell_at grid other_x other_y) object ≡ true)
level_has grid x y new other_x other_y object p q e =
    let i = y * grid.width + x in
    let j = other_y * grid.width + other_x in
    grind (arith, e, get_or-set_same grid.cells i new [], get_or_past (set grid.cells i new) j [], length-set grid.cells i new, get_or-set_other grid.cells i j new [], same_row grid.width x y other_x other_y p q)

-- ---- how a level stays marked
pub in_line_from : (grid : Grid) (line : Line) (at object : ℕ) → at < line_length grid line.axis → stands_in_line grid line object at ≡ true → in_line grid line object ≡ true
in_line_from grid line at object within e =
    let size = line_length grid line.axis in
    grind (arith, e, list_any_at (stands_in_line grid line object) (range_with_len 0 size) at 0, get_or-range_with_len 0 size at 0, length-range_with_len 0 size)

-- a level whose cells have nothing but what they had and what is marked stays marked
pub marked_on : (state : LevelState) (grid : Grid) → grid.width ≡ state.grid.width → grid.height ≡ state.grid.height → ((x y object : ℕ) → x < state.grid.width → y < state.grid.height → is_in (cell_at grid x y) object ≡ true → (is_in (cell_at state.grid x y) object ≡ true) ⊎ ((is_marked state.row_marks y object ≡ true) × (is_marked state.column_marks x object ≡ true))) → IsMarked state → IsMarked (record state { grid = grid })
marked_on state grid wide high has h = record {
  row_count = h.row_count ∙ sym high;
  column_count = h.column_count ∙ sym wide;
  all = λ line object within e. h.all line object (omega (arith, high)) e;
  rows = λ line object within e. (let f = passes_from (λ (x : ℕ). is_in (cell_at grid x line) object) grid.width e in
      grind (arith, wide, high, f.1, has f.0 line object, f.2, h.rows line object, in_line_from state.grid (row_of line) f.0 object));
  columns = λ line object within e. (let f = passes_from (λ (y : ℕ). is_in (cell_at grid line y) object) grid.height e in
      grind (arith, wide, high, f.1, has line f.0 object, f.2, h.columns line object, in_line_from state.grid (column_of line) f.0 object));
}

-- a change of each place that leaves its object
pub marked_map : (state : LevelState) (f : Option Piece → Option Piece) → KeepsObjects f → IsMarked state → IsMarked (record state { grid = record state.grid { cells = map (map f) state.grid.cells } })
marked_map state f same h = marked_on state (record state.grid { cells = map (map f) state.grid.cells }) refl refl (λ x y object _ _ e. inl (sym (is_in_cells f same state.grid.cells (y * state.grid.width + x) object) ∙ e)) h

-- a cell is written with what it had and what is marked
pub marked_cell : (state : LevelState) (x y : ℕ) (new : List (Option Piece)) (test : ℕ → Bool) → x < state.grid.width → ((object : ℕ) → is_in new object ≡ true → (test object ≡ true) ⊎ (is_in (cell_at state.grid x y) object ≡ true)) → IsMarkedAt state x y test → IsMarked state → IsMarked (record state { grid = record state.grid { cells = set state.grid.cells (y * state.grid.width + x) new } })
marked_cell state x y new test x_in has at h =
    marked_on state (record state.grid { cells = set state.grid.cells (y * state.grid.width + x) new }) refl refl (λ other_x other_y object p q e.
    grind (arith, level_has state.grid x y new other_x other_y object x_in p e, has object, at.row object, at.column object)) h

marked_put : (state : LevelState) (x y layer : ℕ) (place : Option Piece) → x < state.grid.width → IsMarkedAt state x y (is_in (place ∷ [])) → IsMarked state → IsMarked (record state { grid = with_place state.grid x y layer place })
marked_put state x y layer place x_in at h = marked_cell state x y (set (cell_at state.grid x y) layer place) (is_in (place ∷ [])) x_in (has_put (cell_at state.grid x y) layer place) at h

-- a piece goes where its object is marked
pub marked_carried : (state : LevelState) (x y : ℕ) (mover : Mover) (next_x next_y : ℕ) → x < state.grid.width → next_x < state.grid.width → IsMarkedAt state next_x next_y (nat_eq mover.object) → IsMarked state → IsMarked (record state { grid = with_piece_moved state.grid x y mover next_x next_y })
marked_carried state x y mover next_x next_y x_in next_in at h =
    marked_put (record state { grid = with_place state.grid x y mover.layer None }) next_x next_y mover.layer (Some (still_piece mover.object)) next_in
    (record { row = λ object e. at.row object (grind (arith, e)); column = λ object e. at.column object (grind (arith, e)) })
    (marked_put state x y mover.layer None x_in (record { row = λ object e. cc; column = λ object e. cc }) h)

-- ---- a mark
-- what is new in a line's set that got one more object
pub more_only : (old new : List (List ℕ)) (line added : ℕ) → IsMore old new line (nat_eq added) → (other object : ℕ) → is_marked new other object ≡ true → (is_marked old other object ≡ true) ⊎ ((other ≡ line) × (added ≡ object))
more_only old new line added more other object e = grind (arith, e, more other object, eqb-true other line, eqb-true added object)

-- a level stays marked where an object is marked in a row, in a column and in the whole
pub marked_mark : (state : LevelState) (x y added : ℕ) (rows columns : List (List ℕ)) (all : List ℕ) → length rows ≡ length state.row_marks → length columns ≡ length state.column_marks → IsMore state.row_marks rows y (nat_eq added) → IsMore state.column_marks columns x (nat_eq added)
    → ((object : ℕ) → member all object ≡ (nat_eq object added || member state.level_marks object)) → IsMarked state → IsMarked (record { grid = state.grid; row_marks = rows; column_marks = columns; level_marks = all })
marked_mark state x y added rows columns all high wide row column level h = record {
  row_count = high ∙ h.row_count;
  column_count = wide ∙ h.column_count;
  rows = λ line object within e. row line object ∙ or_right _ _ (h.rows line object within e);
  columns = λ line object within e. column line object ∙ or_right _ _ (h.columns line object within e);
  all = λ line object within e. grind (arith, level object, h.all line object within, more_only state.row_marks rows y added row line object e, eq-eqb object added);
}
