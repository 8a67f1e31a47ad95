-- A cell that heads nowhere is still. So is each cell of a line or of a level for which no heading is noted.
use Rattle.pz_sheet.proofs.Common.{Layering, inl, inr, ◌≡◌, ◌+◌, ◌*◌, ◌/◌, ◌%◌, ◌<◌, ◌≤◌, ℕ, suc, List, [], ◌∷◌, Option, Bool, true, false, map, length, get_or, arith, sym, ◌∙◌, refl, subst, All, cases_lt, get_or-map, mod-mul-add, div-mul-add, member, IsWithin, heads, flag, Cell, Piece, still_place, place_of, Grid, HeadingSets, column_in, number_of, row_in, pieces_of_cell, each_number, heads_alike, IsSound, grid_of, IsNoted, AreNoted, IsStored, no_cell, cell_mapped}
use Rattle.std.proofs.Math.Nat.{mul-le-mul_right}
use Rattle.std.proofs.lemmas.List.Elements.{All-map}
use Rattle.pz_sheet.specs.Movement.{IsStillAt, AreStill, AreColumnsStill}
use Rattle.pz_planes.specs.Notes.{HaveNoneBetween}
use Rattle.pz_cells.specs.Lists.{IsStilled, HeadNowhere}
use Rattle.pz_sheet.proofs.SheetLemmas.{cell_in}
use Rattle.pz_cells.proofs.ListLemmas.{AreWalked, still_shows, stilled}

pub still_seen : (N : ℕ) (layering : Layering) (cell : Cell N) → IsSound layering cell → ((number : ℕ) → member cell.movement number ≡ false) → pieces_of_cell layering cell ≡ map still_place (pieces_of_cell layering cell)
still_seen N layering cell sound none =
    cell_mapped layering.depth layering.layers cell.objects cell.movement cell.objects cell.movement still_place sound.of_game
    (λ layer. still_shows layering.layers (member cell.objects) (heads cell.movement layer) (heads cell.movement layer) layer (place_of layering.layers cell.objects cell.movement layer) (λ dir. none (flag layer dir)) (sound.shows layer))

-- a cell that is still heads nowhere
pub still_heads : (N : ℕ) (layering : Layering) (cell : Cell N) → All (λ l. l < layering.depth) layering.layers → IsSound layering cell → pieces_of_cell layering cell ≡ map still_place (pieces_of_cell layering cell) → (number : ℕ) → member cell.movement number ≡ false
still_heads N layering cell low sound still number =
    let none : (other : ℕ) → member [] other ≡ false = λ other. grind arith in
    let without = stilled layering.depth layering.layers cell.objects cell.movement [] sound none in
    let heads_same = heads_alike layering.depth layering.layers cell.objects [] cell.objects cell.movement low without.0 sound (still ∙ sym without.1) in
    each_number (λ (mine theirs : Bool). mine ≡ theirs) cell.movement [] sound.proper without.0.proper refl heads_same number ∙ none number

-- what is within nothing has nothing
none_within : (wanted words : List ℕ) → IsWithin wanted words → ((number : ℕ) → member words number ≡ false) → (number : ℕ) → member wanted number ≡ false
none_within wanted words within none number = grind (arith, within number, none number)

same_all : (f : List (Option Piece) → List (Option Piece)) (cells : List (List (Option Piece))) → All (λ cell. cell ≡ f cell) cells → cells ≡ map f cells
same_all f [] same = refl
same_all f (cell ∷ cells) same = grind (arith, same 0 cell, same_all f cells (λ k d within. same (suc k) d (omega (arith, within))))

-- rows for which no heading is noted are stilled as they stand
pub rows_stay : (N width height : ℕ) (layering : Layering) (cells : List (Cell N)) (notes : HeadingSets) → All (IsSound layering) cells → length cells ≡ width * height → AreNoted N width height notes cells
    → (from end k : ℕ) (cell : Cell N) → end ≤ height → HaveNoneBetween notes.rows from end → from * width ≤ k → k < end * width → IsStilled layering (get_or cells k cell) (get_or cells k cell)
rows_stay N width height layering cells notes sound covers noted from end k cell high none late below =
    let y = k / width in
    let column : k % width < width = column_in k width end (omega (arith, below)) in
    let row : y < end = row_in k width end (omega (arith, below)) in
    let first : from ≤ y = grind (arith, mul-le-mul_right {m = y + 1} {n = from} width, late, number_of k width, column) in
    let within : k < length cells = omega (arith, below, covers, mul-le-mul_right {m = end} width high) in
    let nowhere = none_within (get_or cells k cell).movement (get_or notes.rows y []) (noted.each k cell within).row (λ number. none y number first row) in
    record { sound = sound k cell within; seen_still = still_seen N layering (get_or cells k cell) (sound k cell within) nowhere; nowhere = nowhere; objects = refl }

-- the cells of a row are cells of the map
pub row_within : (y width height : ℕ) → y < height → y * width + width ≤ width * height
row_within y width height y_in = grind arith

-- more cells are turned
pub walked_on : {N : ℕ} (Turns : Cell N → Cell N → Type 0) (old now next : List (Cell N)) (from end : ℕ) → from ≤ end → AreWalked Turns old now from → length next ≡ length now
    → ((k : ℕ) (cell : Cell N) → from ≤ k → k < end → Turns (get_or old k cell) (get_or next k cell)) → ((k : ℕ) (cell : Cell N) → k < from → get_or next k cell ≡ get_or now k cell) → ((k : ℕ) (cell : Cell N) → end ≤ k → get_or next k cell ≡ get_or now k cell)
    → AreWalked Turns old next end
walked_on Turns old now next from end order w long between before behind = record {
  long = long ∙ w.long;
  turned = λ k cell below. elim (cases_lt k from) [
    | inl early ↦ subst (Turns (get_or old k cell)) (sym (before k cell early)) (w.turned k cell early)
    | inr late ↦ between k cell late below
  ];
  rest = λ k cell past. behind k cell past ∙ w.rest k cell (omega (arith, order, past));
}

module _ (N width height : ℕ) (layering : Layering) (cells : List (Cell N)) (notes : HeadingSets) (s : IsStored N width height layering cells notes) where
  -- a cell that heads nowhere is still where it stands
  still_there : (x y : ℕ) → x < width → y < height → (IsNoted N width notes (y * width + x) (get_or cells (y * width + x) (no_cell N)) → (number : ℕ) → member (get_or cells (y * width + x) (no_cell N)).movement number ≡ false)
      → IsStillAt (grid_of width height layering cells) x y
  still_there x y x_in y_in nowhere =
      let at = y * width + x in
      let within = cell_in width height (length cells) x y s.covers x_in y_in in
      grind (arith, still_seen N layering (get_or cells at (no_cell N)) (s.sound at (no_cell N) within) (nowhere (s.noted.each at (no_cell N) within)), get_or-map (pieces_of_cell layering) cells at (no_cell N) [] within)

  -- no heading is noted for the columns from one on and before another
  pub columns_are_still : (grid : Grid) → grid_of width height layering cells ≡ grid → (from end : ℕ) → end ≤ width → HaveNoneBetween notes.columns from end → AreColumnsStill grid from end
  columns_are_still grid e from end within none x late below y low y_in =
      let high : y < height = grind (arith, y_in, e) in
      let x_in : x < width = omega (arith, below, within) in
      rw (← e) (still_there x y x_in high (λ noted. none_within _ (get_or notes.columns x []) (rw (mod-mul-add y width x x_in) at noted.column) (λ number. none x number late below)))

  -- no heading is noted for the rows from one on and before another
  pub rows_are_still : (grid : Grid) → grid_of width height layering cells ≡ grid → (x from end : ℕ) → x < grid.width → end ≤ height → HaveNoneBetween notes.rows from end → AreStill grid x from end
  rows_are_still grid e x from end inside within none y late below =
      let x_in : x < width = grind (arith, inside, e) in
      rw (← e) (still_there x y x_in (omega (arith, below, within)) (λ noted. none_within _ (get_or notes.rows y []) (rw (div-mul-add y width x x_in) at noted.row) (λ number. none y number late below)))

  -- no heading is noted at all
  pub all_are_still : ((number : ℕ) → member notes.whole number ≡ false) → map (pieces_of_cell layering) cells ≡ map (map still_place) (map (pieces_of_cell layering) cells)
  all_are_still none =
      same_all (map still_place) (map (pieces_of_cell layering) cells) (All-map (λ cell. cell ≡ map still_place cell) (pieces_of_cell layering) cells
      (λ k d within. still_seen N layering (get_or cells k d) (s.sound k d within) (none_within (get_or cells k d).movement notes.whole (s.noted.each k d within).whole none)))

  pub all_head_nowhere : ((number : ℕ) → member notes.whole number ≡ false) → HeadNowhere cells
  all_head_nowhere none index cell number within = none_within (get_or cells index cell).movement notes.whole (s.noted.each index cell within).whole none number

-- cells that were read head nowhere where the notes say so
pub nowhere_read : (N width height : ℕ) (layering : Layering) (cells read : List (Cell N)) (notes : HeadingSets) (still : Bool) → IsStored N width height layering cells notes → read ≡ cells → (still ≡ true → (number : ℕ) → member notes.whole number ≡ false) → still ≡ true → HeadNowhere read
nowhere_read N width height layering cells read notes still s is none are_still = rw is (all_head_nowhere N width height layering cells notes s (none are_still))

-- cells that head nowhere need no notes
pub noted_nowhere : (N width height : ℕ) (notes : HeadingSets) (cells : List (Cell N)) → length notes.rows ≡ height → length notes.columns ≡ width → HeadNowhere cells → AreNoted N width height notes cells
noted_nowhere N width height notes cells rows columns nowhere = grind (arith, nowhere)
