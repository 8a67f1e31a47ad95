-- The texts of a level's cells, where one cell has changed since it was seen.
use Rattle.pz_level_text.proofs.Common.{common_steps, ◌≡◌, ◌≢◌, Some, IfSome, IsSameBut, take, ℕ, ◌+◌, ◌*◌, ◌/◌, ◌%◌, ◌<◌, ◌≤◌, List, [], Option, None, Bool, true, false, not, ◌&&◌, cond, length, set, get_or, refl, ap, ap₂, sym, ◌∙◌, arith, inl, inr, is_some, get_or-set_same, get_or-set_other, nat_lt, length-set, ext_get_or, GameParts, Grid, IsLawful, SameSize, cell_at, stands, Order, set_of, standing_names, text_of_names, texts_in, column_of, row_of, number_of}
use Rattle.std.proofs.lemmas.Bool.{cases_eq, cases_lt}
use Rattle.std.proofs.Math.Nat.{div-lt_iff_lt-mul}
use Rattle.std.proofs.lemmas.Nat.{div-add-mod', div-mul-add, mod-mul-add}
use Rattle.pz_cells.specs.declared.piece.Piece.{Piece}
use Rattle.pz_cells.specs.Sameness.{same_cell}
use Rattle.pz_cells.specs.Standing.{standing}
use Rattle.pz_cells.proofs.SameLemmas.{same_cell_is}
use Rattle.pz_sheet.specs.Changes.{with_cell, cell_there, differ_in}
use Rattle.pz_sheet.specs.Presence.{cell_of}
use Rattle.pz_record.specs.declared.order.Order.TheVariants.{Rows, Columns}
use Rattle.pz_level_text.proofs.Labelling.{chosen_same}
use Rattle.pz_level_text.proofs.Ordered.{text_at_number, length-texts_in}
use Rattle.pz_level_text.proofs.Walking.{on_map}
use Rattle.pz_json_text.proofs.Changes.{text_kept}
use Rattle.pz_json_text.specs.Written.{RoomView}
use Rattle.pz_level_text.specs.LastText.{IsLastOf}
use Rattle.pz_level_text.specs.declared.last_text.LastText.{LastText}

-- ---- numbers and positions
pub number_back : (order : Order) (grid : Grid) (k : ℕ) → number_of order grid (column_of order grid k) (row_of order grid k) ≡ k
number_back order grid k = grind (arith, common_steps, div-add-mod')

pub position_back : (order : Order) (grid : Grid) (x y : ℕ) → x < grid.width → y < grid.height → (column_of order grid (number_of order grid x y) ≡ x) × (row_of order grid (number_of order grid x y) ≡ y)
position_back order grid x y wide high = grind (arith, common_steps, mod-mul-add, div-mul-add)

pub number_within : (order : Order) (grid : Grid) (x y : ℕ) → x < grid.width → y < grid.height → number_of order grid x y < grid.width * grid.height
number_within order grid x y wide high = grind (arith, common_steps, div-mul-add, div-lt_iff_lt-mul)

-- a position of the map, as it is read off a number that is counted row by row
pub record IsRead (grid : Grid) (index x y : ℕ) : Type 0 where
  pub wide : x < grid.width
  pub high : y < grid.height
  pub number : y * grid.width + x ≡ index

pub read_at : (grid : Grid) (index x y : ℕ) → IsLawful grid → index < grid.width * grid.height → x ≡ column_of Rows grid index → y ≡ row_of Rows grid index → IsRead grid index x y
read_at grid index x y lawful within column row = grind (arith, common_steps, on_map, number_back)

-- positions are a matter of the size alone
same_column : (order : Order) (grid : Grid) (cells : List (List (Option Piece))) (k : ℕ) → column_of order (record grid { cells = cells }) k ≡ column_of order grid k
same_column order grid cells k = grind (arith, common_steps)

same_row : (order : Order) (grid : Grid) (cells : List (List (Option Piece))) (k : ℕ) → row_of order (record grid { cells = cells }) k ≡ row_of order grid k
same_row order grid cells k = grind (arith, common_steps)

-- ---- the names of a cell
stands_alike : (a b : Grid) (x y : ℕ) → a.width ≡ b.width → a.height ≡ b.height → cell_at a x y ≡ cell_at b x y → (object : ℕ) → stands a x y object ≡ stands b x y object
stands_alike a b x y width height cell object = λ i. is_some (cond (nat_lt x (width i) && nat_lt y (height i)) (standing (cell i) object) None)

names_alike : (names : List (List ℕ)) (a b : Grid) (x y : ℕ) → a.width ≡ b.width → a.height ≡ b.height → cell_at a x y ≡ cell_at b x y → standing_names names a (x, y) ≡ standing_names names b (x, y)
unfolding standing_names
names_alike names a b x y width height cell = chosen_same (stands a x y) (stands b x y) (stands_alike a b x y width height cell) 0 names

-- a cell of a number, counted row by row, that is put in
module _ (game : GameParts) (order : Order) (grid level : Grid) (index x y : ℕ) (size : SameSize grid level) (wide : x < grid.width) (high : y < grid.height) (number : y * grid.width + x ≡ index) (within : index < length grid.cells) where
  abbrev text_of : Grid → ℕ × ℕ → List ℕ
  text_of there position = text_of_names (set_of (standing_names game.objects there position))

  -- there stands what is put in
  put_in : text_of level (x, y) ≡ text_of (with_cell grid (cell_there level index)) (x, y)
  put_in =
      let there : level.width ≡ grid.width = size.width in
      let at : y * level.width + x ≡ index = ap (λ (w : ℕ). y * w + x) there ∙ number in
      let cell : cell_at level x y ≡ cell_at (with_cell grid (cell_there level index)) x y =
      ap (λ (j : ℕ). get_or level.cells j []) at
      ∙ (sym (get_or-set_same grid.cells index (cell_of level index) [] within)
      ∙ ap (λ (j : ℕ). get_or (set grid.cells index (cell_of level index)) j []) (sym number)) in
      ap (λ (l : List (List ℕ)). text_of_names (set_of l)) (names_alike game.objects level (with_cell grid (cell_there level index)) x y there size.height cell)

  -- and elsewhere what stood there
  elsewhere : (xk yk : ℕ) → yk * grid.width + xk ≢ index → text_of grid (xk, yk) ≡ text_of (with_cell grid (cell_there level index)) (xk, yk)
  elsewhere xk yk apart =
      let cell : cell_at grid xk yk ≡ cell_at (with_cell grid (cell_there level index)) xk yk = sym (get_or-set_other grid.cells index (yk * grid.width + xk) (cell_of level index) [] apart) in
      ap (λ (l : List (List ℕ)). text_of_names (set_of l)) (names_alike game.objects grid (with_cell grid (cell_there level index)) xk yk refl refl cell)

  -- a number other than that of the position is of another cell
  other_cell : (k : ℕ) → k < grid.width * grid.height → k ≢ number_of order grid x y → row_of order grid k * grid.width + column_of order grid k ≢ index
  other_cell k inside apart here =
      let some_width : 0 < grid.width = omega (arith, wide) in
      let some_height : 0 < grid.height = omega (arith, high) in
      let on = on_map order grid k (column_of order grid k) (row_of order grid k) inside some_width some_height (record { column = refl; row = refl }) in
      let same : row_of order grid k * grid.width + column_of order grid k ≡ y * grid.width + x = here ∙ sym number in
      let column : column_of order grid k ≡ x = sym (mod-mul-add (row_of order grid k) grid.width (column_of order grid k) on.0) ∙ (ap (λ (n : ℕ). n % grid.width) same ∙ mod-mul-add y grid.width x wide) in
      let row : row_of order grid k ≡ y = sym (div-mul-add (row_of order grid k) grid.width (column_of order grid k) on.0) ∙ (ap (λ (n : ℕ). n / grid.width) same ∙ div-mul-add y grid.width x wide) in
      apart (sym (number_back order grid k) ∙ ap₂ (number_of order grid) column row)

  changed_texts : set (texts_in game order grid) (number_of order grid x y) (text_of_names (set_of (standing_names game.objects level (x, y)))) ≡ texts_in game order (with_cell grid (cell_there level index))
  changed_texts =
      let after : Grid = with_cell grid (cell_there level index) in
      let n = number_of order grid x y in
      let text = text_of_names (set_of (standing_names game.objects level (x, y))) in
      let old = texts_in game order grid in
      let long : length (set old n text) ≡ grid.width * grid.height = length-set old n text ∙ length-texts_in game order grid in
      ext_get_or [] (set old n text) (texts_in game order after) (long ∙ sym (length-texts_in game order after)) (λ k h.
      let inside : k < grid.width * grid.height = omega (arith, h, long) in
      let xk = column_of order grid k in
      let yk = row_of order grid k in
      let there : get_or (texts_in game order after) k [] ≡ text_of after (xk, yk) = text_at_number game order after k xk yk inside (sym (same_column order grid after.cells k)) (sym (same_row order grid after.cells k)) in
      elim (cases_eq k n) [
        | inl same ↦ (let back = position_back order grid x y wide high in
            let column : x ≡ xk = sym back.0 ∙ ap (column_of order grid) (sym same) in
            let row : y ≡ yk = sym back.1 ∙ ap (row_of order grid) (sym same) in
            ap (λ (j : ℕ). get_or (set old n text) j []) same
            ∙ (get_or-set_same old n text [] (omega (arith, length-texts_in game order grid, number_within order grid x y wide high))
            ∙ (put_in ∙ (ap₂ (λ (a b : ℕ). text_of after (a, b)) column row ∙ sym there))))
        | inr apart ↦ get_or-set_other old n k text [] apart ∙ (text_at_number game order grid k xk yk inside refl refl ∙ (elsewhere xk yk (other_cell k inside apart) ∙ sym there))
      ])

-- ---- one cell looked at
read_seen : (grid level : Grid) (index x y : ℕ) → SameSize grid level → IsRead level index x y → IsRead grid index x y
read_seen grid level index x y size read = grind (arith, common_steps)

same_number : (order : Order) (grid level : Grid) (x y : ℕ) → SameSize grid level → number_of order level x y ≡ number_of order grid x y
same_number order grid level x y size = grind (arith, common_steps)

pub looked : (game : GameParts) (order : Order) (grid level : Grid) (index x y : ℕ) → SameSize grid level → index < length grid.cells → IsRead level index x y
    → set (texts_in game order grid) (number_of order level x y) (text_of_names (set_of (standing_names game.objects level (x, y)))) ≡ texts_in game order (with_cell grid (cell_there level index))
looked game order grid level index x y size within read =
    let there = read_seen grid level index x y size read in
    ap (λ (n : ℕ). set (texts_in game order grid) n (text_of_names (set_of (standing_names game.objects level (x, y))))) (same_number order grid level x y size)
    ∙ changed_texts game order grid level index x y size there.wide there.high there.number within

-- ---- all cells looked at
not_false : (b : Bool) → not b ≡ false → b ≡ true
not_false b e = grind (arith, common_steps)

pub as_many : (grid level : Grid) → SameSize grid level → IsLawful grid → IsLawful level → length grid.cells ≡ length level.cells
as_many grid level size lawful lawful_level = lawful.covers ∙ (ap₂ (λ (w h : ℕ). w * h) (sym size.width) (sym size.height) ∙ sym lawful_level.covers)

-- the cells before one number are looked at: they have the texts of a level whose cells before that number are as in the level that
-- is looked at, and whose other cells are as in the one that was seen
pub record IsSeenTo (game : GameParts) (order : Order) (seen level : Grid) (from : ℕ) (cells : List (List ℕ)) : Type 0 where
  pub now : Grid
  pub size : SameSize now level
  pub many : length now.cells ≡ length seen.cells
  pub known : cells ≡ texts_in game order now
  pub front : (k : ℕ) → k < from → cell_of now k ≡ cell_of level k
  pub rest : (k : ℕ) → from ≤ k → cell_of now k ≡ cell_of seen k

differs_as : (a b level : Grid) (k : ℕ) → cell_of a k ≡ cell_of b k → differ_in b level k ≡ false → differ_in a level k ≡ false
differs_as a b level k same e = ap (λ (cell : List (Option Piece)). not (same_cell cell (cell_of level k))) same ∙ e

pub all_seen : (game : GameParts) (order : Order) (seen level : Grid) (from : ℕ) (cells : List (List ℕ)) → SameSize seen level → IsLawful seen → IsLawful level → ((k : ℕ) → from ≤ k → k < length seen.cells → differ_in seen level k ≡ false)
    → IsSeenTo game order seen level from cells → cells ≡ texts_in game order level
all_seen game order seen level from cells size lawful lawful_level none is =
    let now = is.now in
    let long : length now.cells ≡ length level.cells = is.many ∙ as_many seen level size lawful lawful_level in
    let same : now.cells ≡ level.cells = ext_get_or [] now.cells level.cells long (λ k h. elim (cases_lt k from) [
      | inl before ↦ is.front k before
      | inr past ↦ same_cell_is (cell_of now k) (cell_of level k) (not_false (same_cell (cell_of now k) (cell_of level k)) (differs_as now seen level k (is.rest k past) (none k past (omega (arith, h, is.many)))))
    ]) in
    let whole : now ≡ level = λ i. record { width = sym is.size.width i; height = sym is.size.height i; depth = sym is.size.depth i; layers = sym is.size.layers i; cells = same i } in
    is.known ∙ ap (texts_in game order) whole

-- one more cell is as it was seen
pub front_more : (grid level : Grid) (from index : ℕ) → length grid.cells ≡ length level.cells → index < length grid.cells → ((k : ℕ) → k < from → cell_of grid k ≡ cell_of level k) → ((k : ℕ) → from ≤ k → k < index → differ_in grid level k ≡ false)
    → (k : ℕ) → k < index + 1 → cell_of (with_cell grid (cell_there level index)) k ≡ cell_of level k
front_more grid level from index long within front rest k h = grind (arith, common_steps, cases_eq, get_or-set_same, get_or-set_other, cases_lt, same_cell_is, not_false)

pub seen_count : (game : GameParts) (order : Order) (seen level : Grid) (from : ℕ) (cells : List (List ℕ)) → IsSeenTo game order seen level from cells → length cells ≡ level.width * level.height
seen_count game order seen level from cells is = ap length is.known ∙ (length-texts_in game order is.now ∙ ap₂ (λ (w h : ℕ). w * h) (sym is.size.width) (sym is.size.height))

pub seen_more : (game game_now : GameParts) (order order_now : Order) (seen level : Grid) (from index : ℕ) (cells new : List (List ℕ)) → game_now ≡ game → order_now ≡ order → SameSize seen level → IsLawful seen → IsLawful level → from ≤ index → index < length seen.cells
    → ((k : ℕ) → from ≤ k → k < index → differ_in seen level k ≡ false) → IsSeenTo game order seen level from cells
    → ((there : Grid) → SameSize there level → index < length there.cells → cells ≡ texts_in game_now order_now there → new ≡ texts_in game_now order_now (with_cell there (cell_there level index)))
    → IsSeenTo game order seen level (index + 1) new
seen_more game game_now order order_now seen level from index cells new same_game same_order size lawful lawful_level past within none is look =
    let now = is.now in
    let inside : index < length now.cells = omega (arith, within, is.many) in
    let after : Grid = with_cell now (cell_there level index) in
    let here : cells ≡ texts_in game_now order_now now = is.known ∙ (λ i. texts_in (sym same_game i) (sym same_order i) now) in
    let long : length now.cells ≡ length level.cells = is.many ∙ as_many seen level size lawful lawful_level in
    record {
      now = after;
      size = record { width = is.size.width; height = is.size.height; depth = is.size.depth; layers = is.size.layers };
      many = length-set now.cells index (cell_of level index) ∙ is.many;
      known = look now is.size inside here ∙ (λ i. texts_in (same_game i) (same_order i) after);
      front = front_more now level from index long inside is.front (λ k low high. differs_as now seen level k (is.rest k low) (none k low high));
      rest = λ k h. get_or-set_other now.cells index k (cell_of level index) [] (λ same. omega (arith, h, same)) ∙ is.rest k (omega (arith, h, past));
    }

-- the last text among more texts, before one more cell changes
pub last_before : (texts more before all : List (List ℕ)) (room : RoomView) (cell : ℕ) → take (length texts) more ≡ texts → IsSameBut cell (cell + 1) before all → (last : Option LastText) → IfSome last (IsLastOf before texts room)
    → IfSome last (λ last. (before : List (List ℕ)) × IsLastOf before more room last × IsSameBut cell (cell + 1) before all)
last_before texts more before all room cell kept same last known = grind (arith, common_steps, text_kept)
