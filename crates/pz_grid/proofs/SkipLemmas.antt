-- No place starts in a line that is not searched, and no more start cells are tested than admitted lines have.
use Rattle.pz_grid.proofs.Common.{Bool, Dir, Grid, HoldsSomewhere, IsMarked, Item, LevelState, List, Option, Piece, Place, RuleRow, StartsNowhere, [], admits_line, admitted_count, arith, cell_at, cond, count_by, count_fewer, count_more, count_within, eqb-true, false, get_or, head_of, is_in, line_at, line_count, line_length, line_of, list_all-from_AllPass, list_any, marks_cell, marks_of, member, mul-le-mul_right, pairs, places, range_with_len, refl, row_holds, row_of, searches_level, searches_line, start_count, starts_at, starts_in, starts_with, subst, suc, sum_by, sum_by-le, sum_more, true, x_at, y_at, zero, ℕ, ◌*◌, ◌+◌, ◌∷◌, ◌≡◌, ◌≤◌}
use Rattle.std.proofs.lemmas.Map.Views.{any-filter_same}
use Rattle.pz_cells.specs.Pattern.{pattern_holds}
use Rattle.pz_grid.proofs.HeadLemmas.{head_from_row}
use Rattle.pz_grid.proofs.MarkLemmas.{in_line_from}
use Rattle.pz_grid.proofs.SomewhereLemmas.{HoldsThere, line_nowhere, nowhere_none}

-- what a cell that holds names is in each set that has all that stands there
cell_marked : (cell : List (Option Piece)) (marks : List ℕ) (pattern : List Item) → ((object : ℕ) → is_in cell object ≡ true → member marks object ≡ true) → pattern_holds cell pattern ≡ true → marks_cell marks pattern ≡ true
cell_marked cell marks [] marked e = refl
cell_marked cell marks (item ∷ items) marked e = grind (arith, e, marked item.object, cell_marked cell marks items marked)

-- what holds in a line is marked there, and in the level's set
line_marked : (state : LevelState) (dir : Dir) (line : ℕ) (pattern : List Item) → IsMarked state → HoldsThere state.grid dir line pattern → marks_cell (marks_of state dir line) pattern ≡ true
line_marked state dir line pattern h f =
    let lies = line_at dir line in
    cell_marked (cell_at state.grid (x_at lies.axis lies.number f.1.at) (y_at lies.axis lies.number f.1.at)) (marks_of state dir line) pattern (λ object has. grind (arith, f.0, h.rows line object, h.columns line object, in_line_from state.grid lies f.1.at object f.1.at_in has)) f.1.holds

level_marked : (state : LevelState) (pattern : List Item) → IsMarked state → HoldsSomewhere state.grid pattern → marks_cell state.level_marks pattern ≡ true
level_marked state pattern h f =
    cell_marked (cell_at state.grid f.x f.y) state.level_marks pattern (λ object has. h.all f.y object f.y_in (h.rows f.y object f.y_in (in_line_from state.grid (row_of f.y) f.x object f.x_in has))) f.holds

-- no place starts in a line that isn't searched
pub unsearched_nowhere : (state : LevelState) (row : RuleRow) (dir : Dir) (line : ℕ) → IsMarked state → searches_line state row dir line ≡ false → StartsNowhere state.grid row dir line
unsearched_nowhere state row dir line h e =
    line_nowhere state.grid row dir line (searches_line state row dir line) (λ all. list_all-from_AllPass (marks_cell (marks_of state dir line)) row.cells (λ k d within. line_marked state dir line (get_or row.cells k d) h (all k d within))) e

-- no place is in a level that isn't searched
pub places_none : (state : LevelState) (row : RuleRow) (dir : Dir) → IsMarked state → searches_level state row ≡ false → places state.grid row dir ≡ []
places_none state row dir h e =
    nowhere_none state.grid row dir (searches_level state row) (λ all. list_all-from_AllPass (marks_cell state.level_marks) row.cells (λ k d within. level_marked state (get_or row.cells k d) h (all k d within))) e

-- a line that is searched is admitted
pub searched_admitted : (state : LevelState) (row : RuleRow) (dir : Dir) (line : ℕ) → searches_line state row dir line ≡ true → admits_line state row dir line ≡ true
searched_admitted state row dir line e = grind (arith, e)

pub admitted_none : (state : LevelState) (row : RuleRow) (dir : Dir) (place : Place) → IsMarked state → admits_line state row dir (line_of dir place) ≡ false → row_holds state.grid row dir place ≡ false
admitted_none state row dir place h e = unsearched_nowhere state row dir (line_of dir place) h (grind (arith, e, searched_admitted state row dir (line_of dir place))) place refl

-- ---- the count
pub count_none : {X : Type 0} (p : X → Bool) (xs : List X) → ((x : X) → p x ≡ false) → count_by p xs ≡ 0
count_none p xs h = omega (arith, sum_by-le (λ x. let n : ℕ = cond (p x) 1 0 in n) 0 xs (λ k d _. grind (arith, h (get_or xs k d))))

-- the counts of cells go on with one more line
pub tested_more : (p : ℕ → Bool) (n size tested more : ℕ) → tested ≤ count_by p (range_with_len 0 n) * size → more ≤ tested + cond (p n) size 0 → more ≤ count_by p (range_with_len 0 (n + 1)) * size
tested_more p n size tested more e f = grind (arith, e, f, count_more p n)

-- a sum whose terms are at most a number where a test passes, and else nothing
bounded : (f : ℕ → ℕ) (p : ℕ → Bool) (size n : ℕ) → ((x : ℕ) → f x ≤ size) → ((x : ℕ) → p x ≡ false → f x ≡ 0) → sum_by f (range_with_len 0 n) ≤ count_by p (range_with_len 0 n) * size
bounded f p size zero h none = omega arith
bounded f p size (suc n) h none =
    subst (λ (m : ℕ). sum_by f (range_with_len 0 m) ≤ count_by p (range_with_len 0 m) * size) (let e : n + 1 ≡ suc n = omega arith in e)
    (tested_more p n size (sum_by f (range_with_len 0 n)) _ (bounded f p size n h none) (grind (arith, sum_more f n, h n, none n)))

-- no cell of a line is a start where no place starts in it, and no more are than the line has
pub starts_nowhere : (grid : Grid) (row : RuleRow) (dir : Dir) (size line : ℕ) → StartsNowhere grid row dir line → starts_in dir (places grid row dir) size line ≡ 0
starts_nowhere grid row dir size line none =
    count_none (λ start. list_any (starts_at dir line start) (places grid row dir)) (range_with_len 0 size) (λ start. any-filter_same (starts_at dir line start) (row_holds grid row dir) false (λ place at. none place (grind (arith, at, eqb-true))) (pairs grid row dir))

-- where a place starts, the cells before the row's gap hold
some_starts : (grid : Grid) (row : RuleRow) (dir : Dir) (line start : ℕ) → list_any (starts_at dir line start) (places grid row dir) ≡ true → starts_with grid dir line (head_of row) start ≡ true
some_starts grid row dir line start any =
    let none = λ (e : starts_with grid dir line (head_of row) start ≡ false). any-filter_same (starts_at dir line start) (row_holds grid row dir) false (λ place at. grind (arith, e, at, eqb-true, head_from_row grid row dir place)) (pairs grid row dir) in
    grind (arith, any, none)

-- so no more cells of a line are starts than those from which the cells before the gap hold
pub starts_fewer : (grid : Grid) (row : RuleRow) (dir : Dir) (size line : ℕ) → starts_in dir (places grid row dir) size line ≤ count_by (starts_with grid dir line (head_of row)) (range_with_len 0 size)
starts_fewer grid row dir size line = count_fewer (λ start. list_any (starts_at dir line start) (places grid row dir)) (starts_with grid dir line (head_of row)) size (λ start _. some_starts grid row dir line start)

-- how many lines are searched
abbrev pub searched_lines : LevelState → RuleRow → Dir → ℕ → ℕ
searched_lines state row dir n = count_by (searches_line state row dir) (range_with_len 0 n)

-- there are no more different start cells than cells of searched lines
pub starts_searched : (state : LevelState) (row : RuleRow) (dir : Dir) → IsMarked state → start_count state.grid dir (places state.grid row dir) ≤ searched_lines state row dir (line_count state.grid dir) * line_length state.grid dir
starts_searched state row dir h =
    let found = places state.grid row dir in
    let size = line_length state.grid dir in
    bounded (starts_in dir found size) (searches_line state row dir) size (line_count state.grid dir) (λ line. count_within (λ start. list_any (starts_at dir line start) found) size) (λ line e. starts_nowhere state.grid row dir size line (unsearched_nowhere state row dir line h e))

-- and no more of these than of admitted ones
pub tested_bounded : (state : LevelState) (row : RuleRow) (dir : Dir) (tested : ℕ) → tested ≤ searched_lines state row dir (line_count state.grid dir) * line_length state.grid dir → tested ≤ admitted_count state row dir * line_length state.grid dir
tested_bounded state row dir tested e =
    let fewer = count_fewer (searches_line state row dir) (admits_line state row dir) (line_count state.grid dir) (λ line _. searched_admitted state row dir line) in
    omega (arith, e, mul-le-mul_right (line_length state.grid dir) fewer)

pub starts_bounded : (state : LevelState) (row : RuleRow) (dir : Dir) → IsMarked state → start_count state.grid dir (places state.grid row dir) ≤ admitted_count state row dir * line_length state.grid dir
starts_bounded state row dir h = tested_bounded state row dir _ (starts_searched state row dir h)
