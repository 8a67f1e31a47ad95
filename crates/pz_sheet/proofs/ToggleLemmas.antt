-- A cell in which exactly one object comes or goes.
use Rattle.pz_sheet.proofs.Common.{common_steps, Layering, ◌≡◌, ℕ, ◌+◌, ◌*◌, ◌<◌, List, Option, None, Bool, true, false, not, ◌&&◌, ◌||◌, nat_eq, set, length, get_or, length-map, arith, refl, ap, sym, map-set, sound_at, Cell, Piece, IsWithin, member, pieces_of_cell, IsOnLayer, IsSound, HeadingSets, PlaneSets, BareState, Grid, cell_at, place_at, grid_of, with_place, AreChanged}
use Rattle.pz_planes.specs.Planes.{toggled_note}
use Rattle.pz_planes.proofs.PlaneLemmas.{changed_from}
use Rattle.pz_sheet.specs.Grid.{IsOnMap}
use Rattle.pz_sheet.specs.Seen.{IsNoted, IsSheet}
use Rattle.pz_sheet.proofs.PlacedLemmas.{placed_set, there_of}
use Rattle.pz_sheet.proofs.SheetLemmas.{cell_seen, placed_there, seen_at, seen_within, stored_set}

-- an object goes, or comes
pub gone : (object : ℕ) (old new : ℕ → Bool) → ((other : ℕ) → new other ≡ (not (nat_eq other object) && old other)) → old object ≡ true → (other : ℕ) → new other ≡ toggled_note (nat_eq other object) (old other)
gone object old new is was other = grind (arith, is other, was)

pub come : (object : ℕ) (old new : ℕ → Bool) → ((other : ℕ) → new other ≡ (nat_eq other object || old other)) → old object ≡ false → (other : ℕ) → new other ≡ toggled_note (nat_eq other object) (old other)
come object old new is was other = grind (arith, is other, was)

-- ---- a cell of a level in which exactly one object comes or goes, while nothing new heads anywhere
-- the cell at a position, in words
pub record IsThere (N width height : ℕ) (layering : Layering) (cells : List (Cell N)) (notes : HeadingSets) (planes : PlaneSets) (grid : Grid) (x y at : ℕ) (cell : Cell N) : Type 0 where
  pub sheet : IsSheet N width height layering cells notes planes
  pub level : grid_of width height layering cells ≡ grid
  pub number : at ≡ y * width + x
  pub x_in : x < width
  pub y_in : y < height
  pub within : at < length cells
  pub is : cell ≡ get_or cells at cell
  pub shown : pieces_of_cell layering cell ≡ cell_at grid x y
  pub sound : IsSound layering cell

pub is_there : {N width height : ℕ} {layering : Layering} {cells : List (Cell N)} {notes : HeadingSets} {planes : PlaneSets} {level : BareState} {x y at : ℕ} {cell : Cell N} → IsSheet N width height layering cells notes planes → record { grid = grid_of width height layering cells } ≡ level → IsOnMap level.grid x y → at ≡ y * level.grid.width + x → at < length level.grid.cells → cell ≡ get_or cells at cell
    → IsThere N width height layering cells notes planes level.grid x y at cell
is_there {N} {width} {height} {layering} {cells} {notes} {planes} {level} {x} {y} {at} {cell} s e on_map number within is =
    let same = ap (λ (it : BareState). it.grid) e in
    let inside = seen_within N width height layering cells level.grid at same within in
    record {
      sheet = s;
      level = same;
      number = grind (arith, number, same);
      x_in = grind (arith, on_map.0, same);
      y_in = grind (arith, on_map.1, same);
      within = inside;
      is = is;
      shown = grind (arith, seen_at N width height layering cells level.grid at cell same inside is, number);
      sound = sound_at layering cells at cell s.stored.sound inside is;
    }

-- a cell that differs in what stands on a layer
pub record IsToggled (N : ℕ) (layering : Layering) (cell new : Cell N) (layer object : ℕ) (place : Option Piece) : Type 0 where
  pub sound : IsSound layering new
  pub shown : pieces_of_cell layering new ≡ set (pieces_of_cell layering cell) layer place
  pub movement : IsWithin new.movement cell.movement
  pub objects : (other : ℕ) → member new.objects other ≡ toggled_note (nat_eq other object) (member cell.objects other)
  pub known : (object < length layering.layers) × (get_or layering.layers object 0 ≡ layer)

module _ {N width height : ℕ} {layering : Layering} {cells : List (Cell N)} {notes : HeadingSets} {planes : PlaneSets} {grid : Grid} {x y at : ℕ} {cell : Cell N} (there : IsThere N width height layering cells notes planes grid x y at cell) where
  -- what is seen of the layers
  pub place_shown : (layer : ℕ) (place : Option Piece) → place_at grid x y layer ≡ place → get_or (pieces_of_cell layering cell) layer None ≡ place
  place_shown layer place e = grind (arith, there.shown, e)

  pub on_its_layer : (layer : ℕ) (place : Option Piece) → place_at grid x y layer ≡ place → IsOnLayer layering.layers layer place
  on_its_layer layer place e = rw (← place_shown layer place e) ((cell_seen N layering cell there.sound).on_layers layer)

  module _ {new : Cell N} {layer object : ℕ} {place : Option Piece} (t : IsToggled N layering cell new layer object place) where
    pub level_toggled : grid_of width height layering (set cells at new) ≡ with_place grid x y layer place
    level_toggled = grind (arith, map-set (pieces_of_cell layering) cells at new, there.level, there.number, t.shown, there.shown)

    deep : layer < length (pieces_of_cell layering cell)
    deep = omega (arith, (cell_seen N layering cell there.sound).deep, there.sheet.stored.law.layered object 0 t.known.0, t.known.1)

    pub place_toggled : place_at (grid_of width height layering (set cells at new)) x y layer ≡ place
    place_toggled = grind (arith, level_toggled, placed_there grid x y layer place, there.within, there.number, there.level, length-map cells (pieces_of_cell layering), deep, there.shown)

    pub sheet_toggled : (next : PlaneSets) → AreChanged planes next x y (λ other was. toggled_note (nat_eq other object) was) → IsSheet N width height layering (set cells at new) notes next
    sheet_toggled next done =
        let s = there.sheet in
        let noted : IsNoted N width notes at cell = rw there.is (s.stored.noted.each at cell there.within) in
        let less : IsNoted N width notes at new = record { whole = λ k e. noted.whole k (t.movement k e); row = λ k e. noted.row k (t.movement k e); column = λ k e. noted.column k (t.movement k e) } in
        record {
          stored = stored_set N width height layering cells at new notes notes s.stored t.sound (rw s.stored.noted.column_count less) (record { row_count = refl; column_count = refl; whole = λ k e. e; rows = λ line k e. e; columns = λ line k e. e });
          placed = placed_set N (length layering.layers) width height planes next cells at x y new s.placed there.number there.x_in there.y_in there.within
              (changed_from (there_of N (length layering.layers) width height planes cells at x y cell s.placed there.number there.x_in there.y_in there.is) done (λ other. sym (t.objects other)));
        }

-- where nothing stands on a layer, nothing does once a place of that layer is emptied
pub none_stays : (grid : Grid) (x y layer next_x next_y : ℕ) → place_at grid next_x next_y layer ≡ None → place_at (with_place grid x y layer None) next_x next_y layer ≡ None
none_stays grid x y layer next_x next_y none = grind (arith, common_steps, none)
