-- Levels and the numbers of their cells.
use Rattle.std.proofs.Common.{◌≡◌, ℕ, ◌+◌, ◌<◌, ◌≤◌, ◌⊎◌, ◌≢◌, inl, inr, not, set, true, false, Bool, suc, drop, fold, List, [], ◌∷◌, ◌++◌, length, map, Some, ap, sym, ◌∙◌, refl, subst, arith, All, get_or, ext_get_or}
use Rattle.std.specs.Prelude.{slice_get, option_map, IsTrue, ◌↔◌}
use Rattle.std.proofs.lemmas.List.{length-map, get_or-map, map-append}
use Rattle.std.proofs.lemmas.List.Elements.{All-from_get_or, All-get_or, All-head, All-tail, All-weaker}
use Rattle.std.proofs.lemmas.Option.{get_or_from_slice_get, same_Some, slice_get-get_or, slice_get-map, slice_get_within}
use Rattle.pz_sheet.specs.Grid.{Grid, SameSize}
use Rattle.pz_cells.proofs.SameLemmas.{same_cell_is}
use Rattle.pz_cells.specs.Sameness.{same_cell}
use Rattle.pz_sheet.specs.Changes.{differ_in}
use Rattle.pz_sheet.specs.Presence.{cell_of}
use Rattle.pz_store.specs.Book.{AreDistinctCells, AreNumbers, BookState, CellSeen, Extends}
use Rattle.pz_store.specs.Digest.{ArePowers, cell_word, digest_with}
use Rattle.pz_store.specs.Levels.{AreLevels, IsRow, level_of}
use Rattle.pz_store.specs.Rows.{RowsState}
use Rattle.std.proofs.Math.Seq.{drop-cons}
use Rattle.pz_store.proofs.Listing.{set_elsewhere, set_here, there, there_before}
use Rattle.pz_store.proofs.RowLemmas.{same_elements}

-- the cell of a number
abbrev pub cell_at : List CellSeen → ℕ → CellSeen
cell_at cells number = get_or cells number []

-- the level of the numbers of a level's cells is that level
pub level_is : (frame grid : Grid) (cells : List CellSeen) (numbers : List ℕ) → SameSize frame grid → AreNumbers cells numbers grid → level_of frame cells numbers ≡ grid
level_is frame grid cells numbers size are =
    let long : length (map (cell_at cells) numbers) ≡ length grid.cells = length-map numbers (cell_at cells) ∙ are.long in
    let same : map (cell_at cells) numbers ≡ grid.cells = ext_get_or [] (map (cell_at cells) numbers) grid.cells long (λ index within. each index (omega (arith, within, length-map numbers (cell_at cells)))) in
    grind (arith, size.width, size.height, size.depth, size.layers, same) where
      each : (index : ℕ) → index < length numbers → get_or (map (cell_at cells) numbers) index [] ≡ cell_of grid index
      each index within =
          let number = get_or numbers index 0 in
          get_or-map (cell_at cells) numbers index 0 [] within ∙ get_or_from_slice_get cells number (cell_of grid index) [] (are.each index number (slice_get-get_or numbers index 0 within))

-- the numbers of a row are those of its level's cells
pub numbers_of_row : (frame : Grid) (cells : List CellSeen) (row : List ℕ) → IsRow frame cells row → AreNumbers cells row (level_of frame cells row)
numbers_of_row frame cells row is = record {
  long = sym (length-map row (cell_at cells));
  each = λ index number there_is.
      let within = slice_get_within row index number there_is in
      let low : number < length cells = subst (λ (n : ℕ). n < length cells) (get_or_from_slice_get row index number 0 there_is) (All-get_or (λ n. n < length cells) row index 0 within is.known) in
      slice_get-get_or cells number [] low ∙ ap (λ (n : ℕ). Some (cell_at cells n)) (sym (get_or_from_slice_get row index number 0 there_is)) ∙ ap (λ (c : CellSeen). Some c) (sym (get_or-map (cell_at cells) row index 0 [] within));
}

-- a level has one list of numbers
pub same_numbers : (cells : List CellSeen) (a b : List ℕ) (grid : Grid) → AreDistinctCells cells → AreNumbers cells a grid → AreNumbers cells b grid → a ≡ b
same_numbers cells a b grid distinct mine theirs = same_elements a b (mine.long ∙ sym theirs.long) (λ index within.
    let one = there a index within in
    let other = there b index (omega (arith, within, mine.long, theirs.long)) in
    one.1 ∙ ap (λ (n : ℕ). Some n) (distinct one.0 other.0 (cell_of grid index) (mine.each index one.0 one.1) (theirs.each index other.0 other.1)) ∙ sym other.1)

-- the numbers of a level's cells are a row
pub row_of_numbers : (frame grid : Grid) (cells : List CellSeen) (numbers : List ℕ) → length grid.cells ≡ length frame.cells → AreNumbers cells numbers grid → IsRow frame cells numbers
row_of_numbers frame grid cells numbers long are = record {
  long = are.long ∙ long;
  known = All-from_get_or (λ n. n < length cells) numbers 0 (λ index within. slice_get_within cells (get_or numbers index 0) (cell_of grid index) (are.each index (get_or numbers index 0) (slice_get-get_or numbers index 0 within)));
}

-- a row of a list is that of these numbers exactly where its level is theirs
pub row_or_level : (frame : Grid) (cells : List CellSeen) (rows : List (List ℕ)) (place : ℕ) (numbers : List ℕ) (grid : Grid) (r : Bool) → place < length rows → All (IsRow frame cells) rows → AreDistinctCells cells →
    SameSize frame grid → AreNumbers cells numbers grid → (IsTrue r ↔ (slice_get rows place ≡ Some numbers)) → IsTrue r ↔ (slice_get (map (level_of frame cells) rows) place ≡ Some grid)
row_or_level frame cells rows place numbers grid r within all distinct size are is =
    let level = level_of frame cells in
    let row = there rows place within in
    let its = subst (λ (l : List ℕ). IsRow frame cells l) (get_or_from_slice_get rows place row.0 [] row.1) (All-get_or (IsRow frame cells) rows place [] within all) in (
      λ t. slice_get-map level rows place ∙ ap (option_map level) (is.0 t) ∙ ap (λ (g : Grid). Some g) (level_is frame grid cells numbers size are),
      λ there_is.
          let same : level row.0 ≡ grid = same_Some (level row.0) grid (sym (slice_get-map level rows place ∙ ap (option_map level) row.1) ∙ there_is) in
          let mine : AreNumbers cells row.0 grid = subst (λ (g : Grid). AreNumbers cells row.0 g) same (numbers_of_row frame cells row.0 its) in
          is.1 (row.1 ∙ ap (λ (l : List ℕ). Some l) (same_numbers cells row.0 numbers grid distinct mine are)),
    )

-- one row more is one level more
pub level_more : (frame : Grid) (cells : List CellSeen) (rows news : List (List ℕ)) (numbers : List ℕ) (grid : Grid) → news ≡ rows ++ numbers ∷ [] → SameSize frame grid → AreNumbers cells numbers grid →
    map (level_of frame cells) news ≡ map (level_of frame cells) rows ++ grid ∷ []
level_more frame cells rows news numbers grid is size are =
    ap (map (level_of frame cells)) is ∙ map-append (level_of frame cells) rows (numbers ∷ []) ∙ ap (λ (g : Grid). map (level_of frame cells) rows ++ g ∷ []) (level_is frame grid cells numbers size are)

-- the digest with one cell more
pub digest_more : (objects : ℕ) (cells : List CellSeen) (numbers : List ℕ) (grid : Grid) (index number word digest total : ℕ) → AreNumbers cells numbers grid → slice_get numbers index ≡ Some number →
    option_map (cell_word objects) (slice_get cells number) ≡ Some word → fold digest_with digest (map (cell_word objects) (drop index grid.cells)) ≡ total →
    fold digest_with (digest_with digest word) (map (cell_word objects) (drop (index + 1) grid.cells)) ≡ total
digest_more objects cells numbers grid index number word digest total are is told before =
    let within : index < length grid.cells = omega (arith, slice_get_within numbers index number is, are.long) in
    let more : index + 1 ≡ suc index = omega arith in
    let is_word : cell_word objects (cell_of grid index) ≡ word = same_Some (cell_word objects (cell_of grid index)) word (sym (ap (option_map (cell_word objects)) (are.each index number is)) ∙ told) in
    ap (λ (n : ℕ). fold digest_with (digest_with digest word) (map (cell_word objects) (drop n grid.cells))) more
    ∙ ap (λ (v : ℕ). fold digest_with (digest_with digest v) (map (cell_word objects) (drop (suc index) grid.cells))) (sym is_word)
    ∙ ap (λ (l : List CellSeen). fold digest_with digest (map (cell_word objects) l)) (sym (drop-cons grid.cells index [] within)) ∙ before

pub row_still : (frame : Grid) (cells news : List CellSeen) (row : List ℕ) → Extends cells news → IsRow frame cells row → IsRow frame news row
row_still frame cells news row extends is = record {
  long = is.long;
  known = All-weaker (λ n. n < length cells) (λ n. n < length news) (λ number low. let h = there cells number low in slice_get_within news number h.0 (extends number h.0 h.1)) row is.known;
}

pub level_still : (frame : Grid) (cells news : List CellSeen) (row : List ℕ) → Extends cells news → IsRow frame cells row → level_of frame news row ≡ level_of frame cells row
level_still frame cells news row extends is =
    let are = numbers_of_row frame cells row is in
    level_is frame (level_of frame cells row) news row (record { width = refl; height = refl; depth = refl; layers = refl })
    (record { long = are.long; each = λ index number there_is. extends number (cell_of (level_of frame cells row) index) (are.each index number there_is) })

levels_still : (frame : Grid) (cells news : List CellSeen) (rows : List (List ℕ)) → Extends cells news → All (IsRow frame cells) rows → map (level_of frame news) rows ≡ map (level_of frame cells) rows
levels_still frame cells news [] extends all = refl
levels_still frame cells news (row ∷ rows) extends all =
    ap (λ (g : Grid). g ∷ map (level_of frame news) rows) (level_still frame cells news row extends (All-head (IsRow frame cells) row rows all))
    ∙ ap (λ (gs : List Grid). level_of frame cells row ∷ gs) (levels_still frame cells news rows extends (All-tail (IsRow frame cells) row rows all))

-- what levels are stays when more cells get numbers
pub rows_still : (book news : BookState) (rows : RowsState) (powers : List ℕ) → AreLevels book rows powers → news.frame ≡ book.frame → Extends book.cells news.cells →
    AreLevels news rows powers × (map (level_of news.frame news.cells) rows.rows ≡ map (level_of book.frame book.cells) rows.rows)
rows_still book news rows powers are frame extends =
    let each = All-weaker (IsRow book.frame book.cells) (IsRow book.frame news.cells) (λ row is. row_still book.frame book.cells news.cells row extends is) rows.rows are.rows.each in (
      record {
        rows = record {
          long = are.rows.long ∙ ap (λ (g : Grid). length g.cells) (sym frame);
          each = subst (λ (g : Grid). All (IsRow g news.cells) rows.rows) (sym frame) each;
        };
        powers = subst (λ (g : Grid). ArePowers (length g.cells) powers) (sym frame) are.powers;
      },
      ap (λ (g : Grid). map (level_of g news.cells) rows.rows) frame ∙ levels_still book.frame book.cells news.cells rows.rows extends are.rows.each,
    )

-- numbers with one more, by a book that may have got more cells
pub numbers_more : (cells news : List CellSeen) (numbers more : List ℕ) (grid : Grid) (index number : ℕ) → Extends cells news → more ≡ numbers ++ number ∷ [] → length numbers ≡ index →
    ((i n : ℕ) → slice_get numbers i ≡ Some n → slice_get cells n ≡ Some (cell_of grid i)) → slice_get news number ≡ Some (cell_of grid index) →
    (i n : ℕ) → slice_get more i ≡ Some n → slice_get news n ≡ Some (cell_of grid i)
numbers_more cells news numbers more grid index number extends is long each last i n there_is =
    elim (there_before numbers number i n (ap (λ (l : List ℕ). slice_get l i) (sym is) ∙ there_is)) [
      | inl was ↦ extends n (cell_of grid i) (each i n was)
      | inr it ↦ ap (λ (m : ℕ). slice_get news m) (sym it.1) ∙ last ∙ ap (λ (m : ℕ). Some (cell_of grid m)) (sym (it.0 ∙ long))
    ]

-- a cell in which two levels don't differ
pub same_there : (level before : Grid) (index : ℕ) → differ_in level before index ≡ false → cell_of before index ≡ cell_of level index
same_there level before index same = sym (same_cell_is (cell_of level index) (cell_of before index) (by (same_cell (cell_of level index) (cell_of before index)) same)) where
  by : (b : Bool) → not b ≡ false → b ≡ true
  by b h = grind arith

-- numbers of a level so far, and of the one before behind that
abbrev pub Numbered : List CellSeen → List ℕ → Grid → ℕ → Type 0
Numbered cells numbers grid from = (index number : ℕ) → index < from → slice_get numbers index ≡ Some number → slice_get cells number ≡ Some (cell_of grid index)

abbrev pub Left : List CellSeen → List ℕ → Grid → ℕ → Type 0
Left cells numbers before from = (index number : ℕ) → from ≤ index → slice_get numbers index ≡ Some number → slice_get cells number ≡ Some (cell_of before index)

pub each_more : (cells news : List CellSeen) (numbers : List ℕ) (level before : Grid) (from found number : ℕ) → Extends cells news → from ≤ found → found < length numbers →
    ((index : ℕ) → from ≤ index → index < found → differ_in level before index ≡ false) → Numbered cells numbers level from → Left cells numbers before from → slice_get news number ≡ Some (cell_of level found) →
    Numbered news (set numbers found number) level (found + 1)
each_more cells news numbers level before from found number extends low within same each left its index n below is = by (grind arith) where
  here : index ≡ found → slice_get news n ≡ Some (cell_of level index)
  here at =
      let told : slice_get (set numbers found number) index ≡ Some number = ap (λ (i : ℕ). slice_get (set numbers found number) i) at ∙ set_here numbers found number within in
      let same_number : number ≡ n = same_Some number n (sym told ∙ is) in
      ap (λ (m : ℕ). slice_get news m) (sym same_number) ∙ its ∙ ap (λ (i : ℕ). Some (cell_of level i)) (sym at)

  elsewhere : (index ≡ found → ⊥) → slice_get news n ≡ Some (cell_of level index)
  elsewhere other =
      let was : slice_get numbers index ≡ Some n = sym (set_elsewhere numbers found index number (λ at. other (sym at))) ∙ is in
      let before_it : index < found = omega (arith, below, other) in
      known was before_it (grind arith) where
        known : slice_get numbers index ≡ Some n → index < found → (index < from) ⊎ (from ≤ index) → slice_get news n ≡ Some (cell_of level index)
        known was before_it (inl done) = extends n (cell_of level index) (each index n done was)
        known was before_it (inr later) = extends n (cell_of level index) (left index n later was ∙ ap (λ (c : CellSeen). Some c) (same_there level before index (same index later before_it)))

  by : (index ≡ found) ⊎ (index ≢ found) → slice_get news n ≡ Some (cell_of level index)
  by (inl at) = here at
  by (inr other) = elsewhere other

pub left_more : (cells news : List CellSeen) (numbers : List ℕ) (before : Grid) (from found number : ℕ) → Extends cells news → from ≤ found → Left cells numbers before from → Left news (set numbers found number) before (found + 1)
left_more cells news numbers before from found number extends low left index n behind is =
    extends n (cell_of before index) (left index n (omega (arith, behind, low)) (sym (set_elsewhere numbers found index number (λ at. omega (arith, behind, at))) ∙ is))

-- once nothing more differs, all are numbered
pub all_numbered : (cells : List CellSeen) (numbers : List ℕ) (level before : Grid) (from : ℕ) → length numbers ≡ length level.cells → ((index : ℕ) → from ≤ index → index < length level.cells → differ_in level before index ≡ false) →
    Numbered cells numbers level from → Left cells numbers before from → AreNumbers cells numbers level
all_numbered cells numbers level before from long same each left = record {
  long = long;
  each = λ index n is. by index n is (grind arith);
} where
  by : (index n : ℕ) → slice_get numbers index ≡ Some n → (index < from) ⊎ (from ≤ index) → slice_get cells n ≡ Some (cell_of level index)
  by index n is (inl done) = each index n done is
  by index n is (inr later) = left index n later is ∙ ap (λ (c : CellSeen). Some c) (same_there level before index (same index later (omega (arith, slice_get_within numbers index n is, long))))

-- a level of the size of another one, which has that of a third
pub size_on : (frame before level : Grid) → SameSize frame before → SameSize before level → SameSize frame level
size_on frame before level left right = record { width = right.width ∙ left.width; height = right.height ∙ left.height; depth = right.depth ∙ left.depth; layers = right.layers ∙ left.layers }
