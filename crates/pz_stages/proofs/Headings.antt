-- In a cell where nothing heads anywhere there is nothing to tell.
use Rattle.std.proofs.Common.{◌≡◌, ℕ, zero, suc, ◌+◌, ◌-◌, ◌<◌, ◌≤◌, Bool, true, false, List, [], ◌∷◌, ◌++◌, map, flat_map, Option, Some, None, refl, ap, sym, ◌∙◌, arith, if◌then◌else◌, nat_lt, ◌&&◌}
use Rattle.std.specs.Prelude.{unwrap_or}
use Rattle.std.specs.List.{enumerate_from, range_with_len}
use Rattle.std.proofs.lemmas.List.{append-nil, append_assoc}
use Rattle.pz_game.specs.declared.direction.Dir.{Dir}
use Rattle.pz_cells.specs.declared.piece.Piece.{Piece}
use Rattle.pz_cells.specs.Cell.{still_place}
use Rattle.pz_cells.specs.Standing.{standing}
use Rattle.pz_sheet.specs.Grid.{Grid, cell_at}
use Rattle.pz_sheet.specs.Movement.{AreColumnsStill, IsStillAt}
use Rattle.pz_sheet.specs.Standing.{heading_at}
use Rattle.pz_stages.specs.Parts.{cell_headings, heading_text, headings_of, row_headings}

standing_still : (cell : List (Option Piece)) (object : ℕ) → unwrap_or (standing (map still_place cell) object) None ≡ None
standing_still [] object = refl
standing_still (None ∷ places) object = standing_still places object
standing_still (Some piece ∷ places) object = grind (arith, standing_still places object)

on_map : (b : Bool) (here : Option (Option Dir)) → unwrap_or here None ≡ None → unwrap_or (if b then here else None) None ≡ None
on_map true here is = is
on_map false here is = refl

heading_still : (grid : Grid) (x y object : ℕ) → IsStillAt grid x y → heading_at grid x y object ≡ None
heading_still grid x y object still =
    let is_on = nat_lt x grid.width && nat_lt y grid.height in
    ap (λ cell. unwrap_or (if is_on then standing cell object else None) None) still
    ∙ on_map is_on (standing (map still_place (cell_at grid x y)) object) (standing_still (cell_at grid x y) object)

no_headings : (grid : Grid) (x y : ℕ) → IsStillAt grid x y → (objects : List (ℕ × List ℕ)) → flat_map (λ (object : ℕ × List ℕ). heading_text x y object.1 (heading_at grid x y object.0)) objects ≡ []
no_headings grid x y still [] = refl
no_headings grid x y still (object ∷ objects) =
    ap (λ heading. heading_text x y object.1 heading ++ flat_map (λ (object : ℕ × List ℕ). heading_text x y object.1 (heading_at grid x y object.0)) objects) (heading_still grid x y object.0 still)
    ∙ no_headings grid x y still objects

pub still_adds : (texts : List ℕ) (objects : List (List ℕ)) (grid : Grid) (x y : ℕ) → IsStillAt grid x y → texts ≡ texts ++ cell_headings objects grid y x
still_adds texts objects grid x y still = sym (append-nil texts) ∙ ap (λ (more : List ℕ). texts ++ more) (sym (no_headings grid x y still (enumerate_from 0 objects)))

-- a number more of a range
range_more : (x w : ℕ) → x < w → range_with_len x (w - x) ≡ x ∷ range_with_len (x + 1) (w - (x + 1))
range_more x w within =
    let more : w - x ≡ suc (w - (x + 1)) = omega (arith, within) in
    ap (λ (n : ℕ). range_with_len x n) more

-- what is added for a number, and for those behind it
pub adds_one : (f : ℕ → List ℕ) (texts : List ℕ) (x w : ℕ) → x < w → texts ++ flat_map f (range_with_len x (w - x)) ≡ (texts ++ f x) ++ flat_map f (range_with_len (x + 1) (w - (x + 1)))
adds_one f texts x w within =
    ap (λ (all : List ℕ). texts ++ flat_map f all) (range_more x w within) ∙ sym (append_assoc texts (f x) (flat_map f (range_with_len (x + 1) (w - (x + 1)))))

pub adds_none : (f : ℕ → List ℕ) (texts : List ℕ) (x w : ℕ) → w ≤ x → texts ++ flat_map f (range_with_len x (w - x)) ≡ texts
adds_none f texts x w over =
    let none : w - x ≡ 0 = omega (arith, over) in
    ap (λ (n : ℕ). texts ++ flat_map f (range_with_len x n)) none ∙ append-nil texts

-- where nothing in any column heads anywhere, there is nothing to tell
rows_still : (objects : List (List ℕ)) (grid : Grid) (y : ℕ) → y < grid.height → AreColumnsStill grid 0 grid.width → (x n : ℕ) → x + n ≤ grid.width → flat_map (cell_headings objects grid y) (range_with_len x n) ≡ []
rows_still objects grid y within still x zero short = refl
rows_still objects grid y within still x (suc n) short =
    let here = no_headings grid x y (still x (omega arith) (omega (arith, short)) y (omega arith) within) (enumerate_from 0 objects) in
    let later = rows_still objects grid y within still (x + 1) n (omega (arith, short)) in
    ap (λ (texts : List ℕ). texts ++ flat_map (cell_headings objects grid y) (range_with_len (x + 1) n)) here ∙ later

level_still : (objects : List (List ℕ)) (grid : Grid) → AreColumnsStill grid 0 grid.width → (y n : ℕ) → y + n ≤ grid.height → flat_map (row_headings objects grid) (range_with_len y n) ≡ []
level_still objects grid still y zero short = refl
level_still objects grid still y (suc n) short =
    let here = rows_still objects grid y (omega (arith, short)) still 0 grid.width (omega arith) in
    let later = level_still objects grid still (y + 1) n (omega (arith, short)) in
    ap (λ (texts : List ℕ). texts ++ flat_map (row_headings objects grid) (range_with_len (y + 1) n)) here ∙ later

pub still_adds_nothing : (texts : List ℕ) (objects : List (List ℕ)) (grid : Grid) → AreColumnsStill grid 0 grid.width → texts ≡ texts ++ headings_of objects grid
still_adds_nothing texts objects grid still =
    sym (append-nil texts) ∙ ap (λ (more : List ℕ). texts ++ more) (sym (level_still objects grid still 0 grid.height (omega arith)))
