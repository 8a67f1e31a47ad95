-- The objects of the cells of a level, noted where they stand.
use Rattle.pz_sheet.proofs.Common.{Layering, ◌≡◌, inl, inr, ℕ, ◌+◌, ◌*◌, ◌/◌, ◌%◌, ◌<◌, ◌≤◌, List, Bool, false, set, length, get_or, arith, refl, sym, ◌∙◌, subst, get_or-set_same, get_or-set_other, All, cases_eq, get_or_default, mul-add-lt, div-mul-add, mod-mul-add, member, PlaneSets, AreChanged, AreThere, HaveSameLines, AreKnown, IsFor, AreThereAt, still_there_at, number_of, column_in, row_in, known_of, Cell, AreAllThere, ArePlaced, EndWithin, IsSound, no_number}
use Rattle.std.proofs.Common.{replicate}
use Rattle.std.proofs.lemmas.Nat.{same_from_place}
use Rattle.pz_planes.proofs.PlaneLemmas.{still_there}
use Rattle.pz_cells.specs.Lists.{HaveSameObjects}

-- ---- what is noted ends with the lines of the map
-- a change at a position of the map
pub ends_still : (width height : ℕ) (old new : PlaneSets) (x y : ℕ) (noted : ℕ → Bool → Bool) → x < width → y < height → old.columns.count ≡ width → old.rows.count ≡ height → AreChanged old new x y noted → EndWithin width height old → EndWithin width height new
ends_still width height old new x y noted x_in y_in wide high changed ends = grind arith

-- the same at the cell of a number, counted row by row
pub ends_still_at : (start old new : PlaneSets) (index : ℕ) (noted : ℕ → Bool → Bool) → HaveSameLines start old → index < start.columns.count * start.rows.count → AreChanged old new (index % old.columns.count) (index / old.columns.count) noted → EndWithin start.columns.count start.rows.count old → EndWithin start.columns.count start.rows.count new
ends_still_at start old new index noted size inside changed ends =
    let width = start.columns.count in
    let height = start.rows.count in
    ends_still width height old new (index % width) (index / width) noted (column_in index width height inside) (row_in index width height inside) size.column_count size.row_count (subst (λ (w : ℕ). AreChanged old new (index % w) (index / w) noted) size.column_count changed) ends

-- ---- the objects of the cells, one after another
-- the objects of one more cell are noted
pub all_there_more : (N : ℕ) (start old new : PlaneSets) (cells : List (Cell N)) (index : ℕ) (here : Cell N) → index < length cells → here ≡ get_or cells index here → HaveSameLines start old → length cells ≡ start.columns.count * start.rows.count → AreChanged old new (index % old.columns.count) (index / old.columns.count) (λ object was. member here.objects object)
    → ((k : ℕ) (cell : Cell N) → k < index → AreThereAt start old k (member (get_or cells k cell).objects)) → (k : ℕ) (cell : Cell N) → k < index + 1 → AreThereAt start new k (member (get_or cells k cell).objects)
all_there_more N start old new cells index here within is size covers changed before k cell below = elim (cases_eq k index) [
  | inl same ↦
      let there = subst (λ (w : ℕ). AreChanged old new (index % w) (index / w) (λ object was. member here.objects object)) size.column_count changed in
      rw (same, ← (is ∙ get_or_default cells index here cell within)) (record { row = there.rows.here; column = there.columns.here })
  | inr other ↦ still_there_at start old new index k (λ object was. member here.objects object) (member (get_or cells k cell).objects) size (omega (arith, below, within, covers)) other changed (before k cell (omega (arith, below, other)))
]

-- where nothing is noted, exactly the objects of an empty set are
pub none_of_empty : (N : ℕ) (start planes : PlaneSets) (index : ℕ) → HaveSameLines start planes → AreThereAt start planes index (λ object. false) → AreThere planes (index % planes.columns.count) (index / planes.columns.count) (member (replicate N 0))
none_of_empty N start planes index size none = grind (arith, no_number N, size.column_count)

pub all_there : (N : ℕ) (start now : PlaneSets) (cells : List (Cell N)) (index : ℕ) → length cells ≤ index → length cells ≡ start.columns.count * start.rows.count → ((k : ℕ) (cell : Cell N) → k < index → AreThereAt start now k (member (get_or cells k cell).objects)) → AreAllThere N start.columns.count start.rows.count now cells
all_there N start now cells index past covers before x y cell x_in y_in =
    let width = start.columns.count in
    grind (arith, before (y * width + x) cell, mul-add-lt y width x start.rows.count y_in x_in, mod-mul-add y width x x_in, div-mul-add y width x x_in)

-- ---- the objects of a cell
-- one cell anew
pub placed_set : (N objects width height : ℕ) (planes next : PlaneSets) (cells : List (Cell N)) (at x y : ℕ) (new : Cell N) → ArePlaced N objects width height planes cells → at ≡ y * width + x → x < width → y < height → at < length cells → AreChanged planes next x y (λ object was. member new.objects object) → ArePlaced N objects width height next (set cells at new)
placed_set N objects width height planes next cells at x y new s number x_in y_in within changed = record {
  fits = grind (arith, s.fits, changed.rows, changed.columns);
  there = λ p q cell p_in q_in. elim (cases_eq (q * width + p) at) [
    | inl same ↦
        let place = same_from_place q p y x width p_in x_in (same ∙ number) in
        rw (same, get_or-set_same cells at new cell within, place.0, place.1) (record { row = changed.rows.here; column = changed.columns.here })
    | inr other ↦ rw (get_or-set_other cells at (q * width + p) new cell other)
        (still_there planes next x y p q (λ object was. member new.objects object) (member (get_or cells (q * width + p) cell).objects) changed (omega (arith, p_in, s.fits.column_count)) (omega (arith, q_in, s.fits.row_count)) (λ same_x same_y. other (grind (arith, number, same_x, same_y))) (s.there p q cell p_in q_in))
  ];
  ends = ends_still width height planes next x y (λ object was. member new.objects object) x_in y_in s.fits.column_count s.fits.row_count changed s.ends;
}

-- cells with the same objects
pub placed_same : (N objects width height : ℕ) (planes : PlaneSets) (old new : List (Cell N)) → HaveSameObjects old new → ArePlaced N objects width height planes old → ArePlaced N objects width height planes new
placed_same N objects width height planes old new same s = grind (arith, same)

-- ---- a cell of a level whose objects are noted
pub there_of : (N objects width height : ℕ) (planes : PlaneSets) (cells : List (Cell N)) (at x y : ℕ) (cell : Cell N) → ArePlaced N objects width height planes cells → at ≡ y * width + x → x < width → y < height → cell ≡ get_or cells at cell → AreThere planes x y (member cell.objects)
there_of N objects width height planes cells at x y cell s number x_in y_in is = grind (arith, s.there x y cell x_in y_in, is, number)

-- the same in the cell of a number, counted row by row
pub there_at : (N objects width height at : ℕ) (planes : PlaneSets) (cells : List (Cell N)) (cell : Cell N) → ArePlaced N objects width height planes cells → at < length cells → length cells ≡ width * height → cell ≡ get_or cells at cell → AreThere planes (at % planes.columns.count) (at / planes.columns.count) (member cell.objects)
there_at N objects width height at planes cells cell s within covers is =
    let inside : at < width * height = omega (arith, within, covers) in
    subst (λ (w : ℕ). AreThere planes (at % w) (at / w) (member cell.objects)) (sym s.fits.column_count)
    (there_of N objects width height planes cells at (at % width) (at / width) cell s (number_of at width) (column_in at width height inside) (row_in at width height inside) is)

pub placed_at : (N objects width height : ℕ) (planes next : PlaneSets) (cells : List (Cell N)) (at : ℕ) (new : Cell N) → ArePlaced N objects width height planes cells → at < length cells → length cells ≡ width * height → AreChanged planes next (at % planes.columns.count) (at / planes.columns.count) (λ object was. member new.objects object) → ArePlaced N objects width height next (set cells at new)
placed_at N objects width height planes next cells at new s within covers changed =
    let inside : at < width * height = omega (arith, within, covers) in
    placed_set N objects width height planes next cells at (at % width) (at / width) new s (number_of at width) (column_in at width height inside) (row_in at width height inside) within
    (subst (λ (w : ℕ). AreChanged planes next (at % w) (at / w) (λ object was. member new.objects object)) s.fits.column_count changed)

-- all cells anew
pub placed_all : (N objects width height : ℕ) (planes next : PlaneSets) (cells : List (Cell N)) → IsFor objects width height planes → HaveSameLines planes next → AreAllThere N planes.columns.count planes.rows.count next cells → EndWithin planes.columns.count planes.rows.count next → ArePlaced N objects width height next cells
placed_all N objects width height planes next cells fits size there ends = record { fits = grind (arith, fits, size); there = rw (← fits.column_count, ← fits.row_count) there; ends = rw (← fits.column_count, ← fits.row_count) ends }

pub all_known : (N : ℕ) (layering : Layering) (width height : ℕ) (planes : PlaneSets) (cells : List (Cell N)) → IsFor (length layering.layers) width height planes → All (IsSound layering) cells → All (λ cell. AreKnown planes cell.objects) cells
all_known N layering width height planes cells fits sound k cell within = known_of layering.layers width height planes (get_or cells k cell).objects fits (sound k cell within).of_game

-- where the same objects stand, the notes stay
pub unchanged : (planes : PlaneSets) (x y : ℕ) (before new : List ℕ) → AreThere planes x y (member before) → ((object : ℕ) → member before object ≡ member new object) → AreChanged planes planes x y (λ object was. member new object)
unchanged planes x y before new there same = record {
  rows = record { objects = refl; count = refl; here = λ object low. there.row object low ∙ same object; others = λ object other place line_in low apart. refl };
  columns = record { objects = refl; count = refl; here = λ object low. there.column object low ∙ same object; others = λ object other place line_in low apart. refl };
}
