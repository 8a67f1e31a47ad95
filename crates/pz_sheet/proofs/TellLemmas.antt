-- Two levels of one size: the words tell in which cells they differ, and where nothing heads the planes of the rows do.
use Rattle.pz_sheet.proofs.Common.{◌≡◌, ℕ, ◌+◌, ◌*◌, ◌/◌, ◌%◌, ◌<◌, ◌≤◌, List, [], Option, Some, None, Bool, false, true, refl, not, IsTrue, ◌↔◌, length, length-map, get_or, get_or-map, arith, ap, sym, ◌∙◌, cases_lt, div-mul-add, mod-mul-add, mul-add-lt, no_cell, in_word, member, PlaneSets, HeadingSets, stands_in, number_of, column_in, row_in, Cell, Layering, AreAlike, IsSound, pieces_of_cell, IsNext, IsNextDiffering, differ_in, BareState, SameSize, grid_of}
use Rattle.std.proofs.Math.Bool.{not-not}
use Rattle.pz_planes.specs.Planes.{AreSameAt, HasRoomOf, IsNextDifferingLine, IsNextDifferingPosition}
use Rattle.pz_planes.specs.declared.planes.Differing.{Differing}
use Rattle.pz_sheet.specs.Changes.{TellsOf}
use Rattle.pz_sheet.specs.Seen.{IsSheet}
use Rattle.pz_sheet.specs.declared.changes.KnownChanges.{KnownChanges}
use Rattle.pz_sheet.specs.declared.Sheet.TheInside.{Inside}
use Rattle.pz_sheet.proofs.ChangeLemmas.{are_other, test_is}
use Rattle.pz_sheet.proofs.StillLemmas.{all_head_nowhere, row_within}

-- ---- cells of levels whose rows fit in a word, over the same layers
module _ (N width height : ℕ) (layering : Layering) (cells : List (Cell N)) (notes : HeadingSets) (planes : PlaneSets) (s : IsSheet N width height layering cells notes planes) (short : width ≤ 128) where
  -- the planes of the rows have the objects of a cell
  objects_there : (number : ℕ) (cell : Cell N) → number < length cells → (object : ℕ) → stands_in planes.rows object (number / width) (number % width) ≡ member (get_or cells number cell).objects object
  objects_there number cell within object =
      let inside : number < width * height = omega (arith, within, s.stored.covers) in
      let x_in = column_in number width height inside in
      grind (arith, number_of number width, (s.placed.there (number % width) (number / width) cell x_in (row_in number width height inside)).row object (omega (arith, x_in, short)))

  -- and no others
  none_past : (number : ℕ) (cell : Cell N) → number < length cells → (object : ℕ) → length layering.layers ≤ object → member (get_or cells number cell).objects object ≡ false
  none_past number cell within object past = grind (arith, (s.stored.sound number cell within).of_game object)

module _ (N width height : ℕ) (layering : Layering) (cells others : List (Cell N)) (notes other_notes : HeadingSets) (planes other_planes : PlaneSets) (a : IsSheet N width height layering cells notes planes) (b : IsSheet N width height layering others other_notes other_planes) (short : width ≤ 128) where
  -- where nothing heads, cells are alike where the same objects are noted
  alike_there : ((number : ℕ) → member notes.whole number ≡ false) → ((number : ℕ) → member other_notes.whole number ≡ false) → (number : ℕ) (cell other : Cell N) → number < length cells → AreSameAt planes.rows other_planes.rows (number / width) (number % width) → AreAlike (get_or cells number cell) (get_or others number other)
  alike_there none none_other number cell other within same =
      let within_other : number < length others = omega (arith, within, a.stored.covers, b.stored.covers) in (
        λ object. grind (
          arith,
          cases_lt object (length layering.layers),
          objects_there N width height layering cells notes planes a short number cell within object,
          objects_there N width height layering others other_notes other_planes b short number other within_other object,
          none_past N width height layering cells notes planes a short number cell within object,
          none_past N width height layering others other_notes other_planes b short number other within_other object,
          same object,
          a.placed.fits.row_objects,
        ),
        λ heading. all_head_nowhere N width height layering cells notes a.stored none number cell heading within ∙ sym (all_head_nowhere N width height layering others other_notes b.stored none_other number other heading within_other),
      )

  same_there : (number : ℕ) (cell other : Cell N) → number < length cells → AreAlike (get_or cells number cell) (get_or others number other) → AreSameAt planes.rows other_planes.rows (number / width) (number % width)
  same_there number cell other within alike object low =
      objects_there N width height layering cells notes planes a short number cell within object ∙ alike.0 object
      ∙ sym (objects_there N width height layering others other_notes other_planes b short number other (omega (arith, within, a.stored.covers, b.stored.covers)) object)

  -- the next position at which the planes differ is the number of the next cell that differs
  next_told : ((number : ℕ) → member notes.whole number ≡ false) → ((number : ℕ) → member other_notes.whole number ≡ false) → (from : ℕ) (found : Option ℕ) → IsNextDifferingPosition planes.rows other_planes.rows width from found → IsNextDiffering cells others from found
  next_told none none_other from found next = by_found found next where
    all : planes.rows.count * width ≡ length cells
    all = grind (arith, a.placed.fits.row_count, a.stored.covers)

    by_found : (found : Option ℕ) → IsNextDifferingPosition planes.rows other_planes.rows width from found → IsNextDiffering cells others from found
    by_found None same = λ number cell other low high. alike_there none none_other number cell other high (same number low (omega (arith, high, all)))
    by_found (Some found) next =
        let within : found < length cells = omega (arith, next.1, all) in (
          next.0,
          within,
          λ cell other alike. next.2 (same_there found cell other within alike),
          λ number cell other low high. alike_there none none_other number cell other (omega (arith, high, within)) (next.3 number low high),
        )

-- ---- two levels of one size
module _ {N : ℕ} {here there : BareState} (a b : Inside N) (size : SameSize here.grid there.grid) (is : record { grid = grid_of a.width a.height a.layers a.cells.items } ≡ here) (is_other : record { grid = grid_of b.width b.height b.layers b.cells.items } ≡ there)
    (sheet : IsSheet N a.width a.height a.layers a.cells.items a.notes a.planes) (sheet_other : IsSheet N b.width b.height b.layers b.cells.items b.notes b.planes) where
  many : length here.grid.cells ≡ length a.cells.items
  many = grind (arith, is, length-map a.cells.items (pieces_of_cell a.layers))

  same_width : a.width ≡ b.width
  same_width = grind (arith, is, is_other, size.width)

  same_height : a.height ≡ b.height
  same_height = grind (arith, is, is_other, size.height)

  same_layers : a.layers ≡ b.layers
  same_layers = grind (arith, is, is_other, size.depth, size.layers)

  pub as_many : length a.cells.items ≡ length b.cells.items
  as_many = grind (arith, same_width, same_height, sheet.stored.covers, sheet_other.stored.covers)

  pub as_many_seen : length here.grid.cells ≡ length there.grid.cells
  as_many_seen = many ∙ (as_many ∙ (sym (length-map b.cells.items (pieces_of_cell b.layers)) ∙ ap (λ (l : BareState). length l.grid.cells) is_other))

  -- the planes of the rows have as many objects and lines
  pub same_room : HasRoomOf a.planes.rows b.planes.rows
  same_room = record {
    objects = sheet.placed.fits.row_objects ∙ (ap (λ (l : Layering). length l.layers) same_layers ∙ sym sheet_other.placed.fits.row_objects);
    count = sheet.placed.fits.row_count ∙ (same_height ∙ sym sheet_other.placed.fits.row_count);
  }

  -- the words tell whether the cells of a number are the same
  same_cells : (index : ℕ) (r : Bool) → index < length a.cells.items → (IsTrue r ↔ AreAlike (get_or a.cells.items index (no_cell N)) (get_or b.cells.items index (no_cell N))) → differ_in here.grid there.grid index ≡ not r
  same_cells index r within decides =
      let within_other : index < length b.cells.items = omega (arith, within, as_many) in
      let sound : IsSound a.layers (get_or b.cells.items index (no_cell N)) = rw same_layers (sheet_other.stored.sound index (no_cell N) within_other) in
      grind (arith, is, is_other, same_layers, get_or-map (pieces_of_cell a.layers) a.cells.items index (no_cell N) [] within, get_or-map (pieces_of_cell b.layers) b.cells.items index (no_cell N) [] within_other, test_is N a.layers sheet.stored.law.layered (get_or a.cells.items index (no_cell N)) (get_or b.cells.items index (no_cell N)) r (sheet.stored.sound index (no_cell N) within) sound decides)

  alike_same : (index : ℕ) → index < length a.cells.items → AreAlike (get_or a.cells.items index (no_cell N)) (get_or b.cells.items index (no_cell N)) → differ_in here.grid there.grid index ≡ false
  alike_same index within same = same_cells index true within (λ _. same, λ _. refl)

  -- the next cell whose words differ is the next that is seen to differ
  pub next_is : (from : ℕ) (found : Option ℕ) → IsNextDiffering a.cells.items b.cells.items from found → IsNext (differ_in here.grid there.grid) from (length here.grid.cells) found
  next_is from None same = λ number low high. alike_same number (omega (arith, high, many)) (same number (no_cell N) (no_cell N) low (omega (arith, high, many)))
  next_is from (Some found) n = (
    n.0,
    omega (arith, n.1, many),
    same_cells found false n.1 (λ (e : false ≡ true). cc, λ same. absurd (n.2 (no_cell N) (no_cell N) same)),
    λ number low high. alike_same number (omega (arith, high, n.1)) (n.3 number (no_cell N) (no_cell N) low high),
  )

  -- in which nothing heads, and whose rows fit in a word
  module _ (short_seen : here.grid.width ≤ 128) (none : (number : ℕ) → member a.notes.whole number ≡ false) (none_other : (number : ℕ) → member b.notes.whole number ≡ false) where
    short : a.width ≤ 128
    short = grind (arith, is, short_seen)

    sized : IsSheet N a.width a.height a.layers b.cells.items b.notes b.planes
    sized = rw (same_width, same_height, same_layers) sheet_other

    pub next_by_planes : (from : ℕ) (found : Option ℕ) → IsNextDifferingPosition a.planes.rows b.planes.rows a.width from found → IsNext (differ_in here.grid there.grid) from (length here.grid.cells) found
    next_by_planes from found next = next_is from found (next_told N a.width a.height a.layers a.cells.items b.cells.items a.notes b.notes a.planes b.planes sheet sized short none none_other from found next)

    -- the word in which the planes of a row differ tells in which of its cells the levels do
    pub known_row : (from : ℕ) (row : Differing) (known : KnownChanges) → IsNextDifferingLine a.planes.rows b.planes.rows a.width from (Some row) → known.first ≡ row.line * a.width → known.count ≡ a.width → known.places ≡ row.places → TellsOf (differ_in here.grid there.grid) (length here.grid.cells) known
    known_row from row known next first count places =
        let inside : row.found < a.width * a.height = omega (arith, (next_by_planes from (Some row.found) next.0).1, many, sheet.stored.covers) in
        let line_in : row.line < a.height = omega (arith, next.1, row_in row.found a.width a.height inside) in
        record {
          within = omega (arith, row_within row.line a.width a.height line_in, many, sheet.stored.covers, first, count);
          each = λ at at_in.
              let x_in : at < a.width = omega (arith, at_in, count) in
              let number = row.line * a.width + at in
              let within : number < length a.cells.items = omega (arith, mul-add-lt row.line a.width at a.height line_in x_in, sheet.stored.covers) in
              let told = next.2 at (omega (arith, x_in, short)) in
              let decides : IsTrue (not (in_word row.places at)) ↔ AreAlike (get_or a.cells.items number (no_cell N)) (get_or b.cells.items number (no_cell N)) = (
                λ no. alike_there N a.width a.height a.layers a.cells.items b.cells.items a.notes b.notes a.planes b.planes sheet sized short none none_other number (no_cell N) (no_cell N) within (rw (div-mul-add row.line a.width at x_in, mod-mul-add row.line a.width at x_in) (told.0 (are_other _ no))),
                λ alike. ap not (told.1 (rw (div-mul-add row.line a.width at x_in, mod-mul-add row.line a.width at x_in) at (same_there N a.width a.height a.layers a.cells.items b.cells.items a.notes b.notes a.planes b.planes sheet sized short number (no_cell N) (no_cell N) within alike))),
              ) in
              cc (first, places, not-not (in_word row.places at), same_cells number (not (in_word row.places at)) within decides);
        }
