-- What is noted in a line is what stands there. So where rules' cells hold one after another, the objects that they name as present are
-- noted, and those that they name as absent are not.
use Rattle.pz_sheet.proofs.Common.{common_steps, ◌≡◌, inl, inr, ℕ, ◌+◌, ◌*◌, ◌<◌, ◌≤◌, List, [], Option, Bool, true, false, length, get_or, arith, ap, sym, ◌∙◌, ◌↔◌, All, list_all, list_any, enumerate_from, range_with_len, cases_lt, false≢true, true_from_ne_false, get_or-map, get_or_default, list_any_none, list_any_at, length-range_with_len, get_or-range_with_len, member, Cell, Item, Piece, Layering, no_cell, member_seen, Axis, Horizontal, Vertical, Way, step_to, room_from, AreMarks, HeadingSets, PlaneSets, IsMissingIn, MayHold, MayRun, stands_in, lines_of, Grid, Line, Walk, cell_at, x_at, y_at, dir_of, holds_in, holds_along, runs_in, line_length, line_count, ArePlaced, AreMissing, is_in, stands_in_line, grid_of, IsStored, pieces_of_cell}
use Rattle.std.proofs.lemmas.List.Sums.{AllPass-from_list_all}
use Rattle.pz_game.specs.Items.{names}
use Rattle.pz_cells.specs.Pattern.{item_holds}
use Rattle.pz_planes.proofs.BitLemmas.{step_within}
use Rattle.pz_sheet.specs.Marks.{AreMarksOf}
use Rattle.pz_sheet.proofs.RunLemmas.{enumerate_fails, along_in, run_past}
use Rattle.pz_sheet.proofs.SheetLemmas.{cell_in, only_false}

-- ---- numbers below one that fail a test
none_below : (p : ℕ → Bool) (n : ℕ) → ((k : ℕ) → k < n → p k ≡ false) → list_any p (range_with_len 0 n) ≡ false
none_below p n none = list_any_none p (range_with_len 0 n) (λ k d within. grind (arith, length-range_with_len 0 n, get_or-range_with_len 0 n k d, none k))

each_fails : (p : ℕ → Bool) (n k : ℕ) → list_any p (range_with_len 0 n) ≡ false → k < n → p k ≡ false
each_fails p n k none low = grind (arith, length-range_with_len 0 n, get_or-range_with_len 0 n k 0, list_any_at p (range_with_len 0 n) k 0)

-- ---- what the items of a rule's cell say where it holds, and its cells where all do
item_says : (cell : List (Option Piece)) (item : Item) → item_holds cell item ≡ true → is_in cell item.object ≡ names item.word
item_says cell item holds = grind (arith, common_steps)

each_passes : (p : ℕ × List Item → Bool) (patterns : List (List Item)) → list_all p (enumerate_from 0 patterns) ≡ true → (index : ℕ) (other : List Item) → index < length patterns → p (index, get_or patterns index other) ≡ true
each_passes p patterns all index other within = true_from_ne_false _ (λ e. absurd (false≢true (sym (enumerate_fails p patterns index (get_or patterns index other) within (get_or_default patterns index other (get_or patterns index other) within) e) ∙ all)))

more_room : (long longer : ℕ) (way : Way) (at : ℕ) → long ≤ longer → room_from long way at ≤ room_from longer way at
more_room long longer way at h = grind arith

-- ---- what follows for the lines of an axis
-- the objects that are noted there are those that stand there
abbrev pub Gives : PlaneSets → Axis → List (List ℕ) → Grid → Type 0
Gives planes axis marks grid = line_length grid axis ≤ 128 → AreMarks (lines_of planes axis) marks → AreMarksOf grid axis marks

-- where a rule's cell holds in a line it may hold by what is noted
abbrev pub Admits : PlaneSets → Line → List Item → Grid → Type 0
Admits planes line pattern grid =
    line.number < line_count grid line.axis → (at : ℕ) → at < line_length grid line.axis → at < 128 → holds_in grid line pattern at ≡ true → MayHold (lines_of planes line.axis) line.number at pattern

-- the same of rules' cells one after another
abbrev pub AdmitsRun : PlaneSets → Walk → List (List Item) → Grid → Type 0
AdmitsRun planes walk patterns grid =
    let line = walk.line in
    line.number < line_count grid line.axis → line_length grid line.axis ≤ 128 → 0 < length patterns → (at : ℕ) → at < line_length grid line.axis → runs_in grid walk patterns at ≡ true → MayRun (lines_of planes line.axis) line.number walk.way patterns at

module _ (N width height : ℕ) (layering : Layering) (cells : List (Cell N)) (notes : HeadingSets) (planes : PlaneSets) (s : IsStored N width height layering cells notes) (p : ArePlaced N (length layering.layers) width height planes cells) where
  abbrev grid : Grid
  grid = grid_of width height layering cells

  -- the objects of a cell
  objects_of : (x y object : ℕ) → x < width → y < height → member (get_or cells (y * width + x) (no_cell N)).objects object ≡ is_in (cell_at grid x y) object
  objects_of x y object x_in y_in =
      let at = y * width + x in
      let cell = get_or cells at (no_cell N) in
      let there = cell_in width height (length cells) x y s.covers x_in y_in in
      member_seen layering.depth layering.layers cell.objects cell.movement object s.law.layered (s.sound at (no_cell N) there) ∙ ap (λ (here : List (Option Piece)). is_in here object) (sym (get_or-map (pieces_of_cell layering) cells at (no_cell N) [] there))

  known_in : (x y object : ℕ) → x < width → y < height → is_in (cell_at grid x y) object ≡ true → object < length layering.layers
  known_in x y object x_in y_in e = (s.sound (y * width + x) (no_cell N) (cell_in width height (length cells) x y s.covers x_in y_in)).of_game object (objects_of x y object x_in y_in ∙ e)

  -- a position of a line
  noted_at : (axis : Axis) (number at object : ℕ) → number < line_count grid axis → at < line_length grid axis → at < 128 → stands_in (lines_of planes axis) object number at ≡ stands_in_line grid (record { axis = axis; number = number }) object at
  noted_at Horizontal number at object line_in at_in small = (p.there at number (no_cell N) at_in line_in).row object small ∙ objects_of at number object at_in line_in
  noted_at Vertical number at object line_in at_in small = (p.there number at (no_cell N) line_in at_in).column object small ∙ objects_of number at object line_in at_in

  known_at : (axis : Axis) (number at object : ℕ) → number < line_count grid axis → at < line_length grid axis → stands_in_line grid (record { axis = axis; number = number }) object at ≡ true → object < (lines_of planes axis).objects
  known_at axis number at object line_in at_in e = grind (arith, known_in at number object, known_in number at object, p.fits.row_objects, p.fits.column_objects)

  -- objects that no row notes stand in no cell of it
  pub missing_in_row : (objects : List ℕ) (x y : ℕ) → x < width → y < height → x < 128 → All (IsMissingIn planes.rows y) objects → AreMissing objects (cell_at grid x y)
  missing_in_row objects x y x_in y_in small missing k other within =
      let object = get_or objects k other in
      only_false _ (λ e. sym (missing k other within x (known_at Horizontal y x object y_in x_in e) small) ∙ noted_at Horizontal y x object y_in x_in small ∙ e)

  none_past : (axis : Axis) (number at object : ℕ) → number < line_count grid axis → line_length grid axis ≤ at → at < 128 → stands_in (lines_of planes axis) object number at ≡ false
  none_past axis number at object line_in past small = grind (arith, p.ends.rows object number at, p.ends.columns object number at)

  as_many : (axis : Axis) → (lines_of planes axis).count ≡ line_count grid axis
  as_many axis = grind (arith, p.fits.row_count, p.fits.column_count)

  module _ (axis : Axis) (number object : ℕ) (line_in : number < line_count grid axis) (short : line_length grid axis ≤ 128) where
    abbrev stands : ℕ → Bool
    stands = stands_in_line grid (record { axis = axis; number = number }) object

    missing_from_none : list_any stands (range_with_len 0 (line_length grid axis)) ≡ false → IsMissingIn (lines_of planes axis) number object
    missing_from_none none at known small = elim (cases_lt at (line_length grid axis)) [
      | inl at_in ↦ noted_at axis number at object line_in at_in small ∙ each_fails stands (line_length grid axis) at none at_in
      | inr past ↦ none_past axis number at object line_in past small
    ]

    none_from_missing : IsMissingIn (lines_of planes axis) number object → list_any stands (range_with_len 0 (line_length grid axis)) ≡ false
    none_from_missing missing = none_below stands (line_length grid axis) (λ at at_in. only_false (stands at) (λ e.
        let small : at < 128 = omega (arith, at_in, short) in
        sym (missing at (known_at axis number at object line_in at_in e) small) ∙ noted_at axis number at object line_in at_in small ∙ e))

    exact : (marked : Bool) → (marked ≡ false) ↔ IsMissingIn (lines_of planes axis) number object → marked ≡ list_any stands (range_with_len 0 (line_length grid axis))
    exact marked h = grind (arith, h, none_from_missing, missing_from_none)

  pub gives : (axis : Axis) (marks : List (List ℕ)) → Gives planes axis marks grid
  gives axis marks short are number object line_in = exact axis number object line_in short (member (get_or marks number []) object) (are number object (omega (arith, line_in, as_many axis)))

  pub admits : (line : Line) (pattern : List Item) → Admits planes line pattern grid
  admits line pattern line_in at at_in small holds k other within =
      let here = cell_at grid (x_at line.axis line.number at) (y_at line.axis line.number at) in
      noted_at line.axis line.number at (get_or pattern k other).object line_in at_in small ∙ item_says here (get_or pattern k other) (AllPass-from_list_all (item_holds here) pattern holds k other within)

  pub admits_run : (walk : Walk) (patterns : List (List Item)) → AdmitsRun planes walk patterns grid
  admits_run walk patterns line_in short some at at_in holds =
      let line = walk.line in
      let way = walk.way in
      let long = line_length grid line.axis in
      let inside : length patterns ≤ room_from long way at = (elim (cases_lt (room_from long way at) (length patterns)) [
        | inl past ↦ absurd (false≢true (sym (run_past grid walk at patterns some at_in past) ∙ holds))
        | inr fits ↦ fits
      ]) in
      record {
        within = omega (arith, inside, more_room long 128 way at short);
        each = λ index other h.
            let room : index < room_from long way at = omega (arith, h, inside) in
            let there : step_to way at index < long = step_within long way at index at_in room in
            admits line (get_or patterns index other) line_in (step_to way at index) there (omega (arith, there, short))
            (sym (along_in grid line.axis line.number way (get_or patterns index other) at index line_in at_in room)
            ∙ each_passes (holds_along grid (dir_of walk) (x_at line.axis line.number at) (y_at line.axis line.number at)) patterns holds index other h);
      }
