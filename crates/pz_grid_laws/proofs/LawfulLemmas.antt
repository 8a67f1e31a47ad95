-- Levels whose cells are changed stay lawful.
use Rattle.pz_grid_laws.proofs.Common.{All, All-from_get_or, All-get_or, All-set, Dir, Grid, IsCell, IsLawful, IsOnLayer, List, None, Option, Pass, Piece, Some, Spot, [], arith, cases_eq, cases_lt, cell_at, cond, false, get_or, get_or-map, get_or-set_other, get_or-set_same, get_or_past, heading_goal, in_pass, inl, inr, is_one_of, kept_by_moves, length, length-map, length-set, map, moved_to, moving, pass_of, place_at, pushed_level, pushed_place, after_movement, set, set_past, settle, spots, still_piece, still_place, still_level, suc, true, with_place, zero, ℕ, ◌*◌, ◌+◌, ◌<◌, ◌∙◌, ◌≡◌}

-- a change of a cell leaves it a cell of the game
abbrev pub KeepsCell : ℕ → List ℕ → (List (Option Piece) → List (Option Piece)) → Type 0
KeepsCell depth layers f = (cell : List (Option Piece)) → IsCell depth layers cell → IsCell depth layers (f cell)

-- a level with as many cells, each of the game
lawful_cells : (grid : Grid) (cells : List (List (Option Piece))) → length cells ≡ length grid.cells → All (IsCell grid.depth grid.layers) cells → IsLawful grid → IsLawful (record grid { cells = cells })
lawful_cells grid cells long all h = record { covers = long ∙ h.covers; size = h.size; shallow = h.shallow; few = h.few; layered = h.layered; stacked = all }

pub lawful-map : (grid : Grid) (f : List (Option Piece) → List (Option Piece)) → KeepsCell grid.depth grid.layers f → IsLawful grid → IsLawful (record grid { cells = map f grid.cells })
lawful-map grid f keeps h = lawful_cells grid (map f grid.cells) (length-map grid.cells f) (All-from_get_or (IsCell grid.depth grid.layers) (map f grid.cells) [] (λ i within.
    let inside : i < length grid.cells = omega (arith, length-map grid.cells f) in
    rw (get_or-map f grid.cells i [] [] inside) (keeps (get_or grid.cells i []) (All-get_or (IsCell grid.depth grid.layers) grid.cells i [] inside h.stacked)))) h

-- a change of each place that leaves its object on its layer
pub keeps_cell-map : (depth : ℕ) (layers : List ℕ) (f : Option Piece → Option Piece) → ((layer : ℕ) (place : Option Piece) → IsOnLayer layers layer place → IsOnLayer layers layer (f place)) → KeepsCell depth layers (map f)
keeps_cell-map depth layers f keeps cell h = record {
  deep = length-map cell f ∙ h.deep;
  on_layers = λ layer. elim (cases_lt layer (length cell)) [
    | inl within ↦ rw (get_or-map f cell layer None None within) (keeps layer (get_or cell layer None) (h.on_layers layer))
    | inr past ↦ rw (get_or_past (map f cell) layer None (omega (arith, length-map cell f))) tt
  ];
}

-- a place of a cell that is written with an object of its layer
pub is_cell-set : (depth : ℕ) (layers : List ℕ) (cell : List (Option Piece)) (at : ℕ) (place : Option Piece) → IsCell depth layers cell → IsOnLayer layers at place → IsCell depth layers (set cell at place)
is_cell-set depth layers cell at place h on = record {
  deep = length-set cell at place ∙ h.deep;
  on_layers = λ layer. elim (cases_eq layer at) [
    | inl one ↦ elim (cases_lt at (length cell)) [
      | inl within ↦ rw (one, get_or-set_same cell at place None within) on
      | inr past ↦ rw (set_past cell at place past) (h.on_layers layer)
    ]
    | inr other ↦ rw (get_or-set_other cell at layer place None other) (h.on_layers layer)
  ];
}

-- a level with a place written; off the map nothing is written
pub lawful-with_place : (grid : Grid) (x y layer : ℕ) (place : Option Piece) → IsOnLayer grid.layers layer place → IsLawful grid → IsLawful (with_place grid x y layer place)
lawful-with_place grid x y layer place on h =
    let i = y * grid.width + x in
    let new = set (cell_at grid x y) layer place in
    lawful_cells grid (set grid.cells i new) (length-set grid.cells i new) (elim (cases_lt i (length grid.cells)) [
      | inl within ↦ All-set (IsCell grid.depth grid.layers) grid.cells i new (is_cell-set grid.depth grid.layers (cell_at grid x y) layer place (All-get_or (IsCell grid.depth grid.layers) grid.cells i [] within h.stacked) on) h.stacked
      | inr past ↦ rw (set_past grid.cells i new past) h.stacked
    ]) h

-- what stands at a position of a lawful level is on its layer
place-on_layer : (grid : Grid) (x y layer : ℕ) → IsLawful grid → IsOnLayer grid.layers layer (place_at grid x y layer)
place-on_layer grid x y layer h = elim (cases_lt (y * grid.width + x) (length grid.cells)) [
  | inl within ↦ (All-get_or (IsCell grid.depth grid.layers) grid.cells (y * grid.width + x) [] within h.stacked).on_layers layer
  | inr past ↦ rw (get_or_past grid.cells (y * grid.width + x) [] past) tt
]

lawful-moved_to : (pass : Pass) (at : Spot) (piece : Piece) (goal : ℕ × ℕ) → place_at pass.grid at.x at.y at.layer ≡ Some piece → heading_goal pass.grid at piece.heading ≡ Some goal → IsLawful pass.grid → IsLawful (moved_to pass at piece (Some goal)).grid
lawful-moved_to pass at piece goal e g h =
    lawful-with_place (with_place pass.grid at.x at.y at.layer None) goal.0 goal.1 at.layer (Some (still_piece piece.object)) (rw e at (place-on_layer pass.grid at.x at.y at.layer h)) (lawful-with_place pass.grid at.x at.y at.layer None tt h)

lawful-settle : (n : ℕ) (grid : Grid) → IsLawful grid → IsLawful (settle n grid)
lawful-settle zero grid h = h
lawful-settle (suc n) grid h =
    let next = lawful-settle n (pass_of grid).grid (kept_by_moves (λ (pass : Pass). IsLawful pass.grid) lawful-moved_to (spots grid) (in_pass grid false) h) in
    elim ((pass_of grid).moved) as (λ b. IsLawful (cond b (settle n (pass_of grid).grid) grid)) [ true ↦ next | false ↦ h ]

still_on_layer : (layers : List ℕ) (layer : ℕ) (place : Option Piece) → IsOnLayer layers layer place → IsOnLayer layers layer (still_place place)
still_on_layer layers layer None h = h
still_on_layer layers layer (Some piece) h = h

pub lawful-stilled : (grid : Grid) → IsLawful grid → IsLawful (still_level grid)
lawful-stilled grid h = lawful-map grid (map still_place) (keeps_cell-map grid.depth grid.layers still_place (still_on_layer grid.layers)) h

pushed_on_layer : (players : List ℕ) (dir : Dir) (layers : List ℕ) (layer : ℕ) (place : Option Piece) → IsOnLayer layers layer place → IsOnLayer layers layer (pushed_place players dir place)
pushed_on_layer players dir layers layer None h = h
pushed_on_layer players dir layers layer (Some piece) h =
    elim (is_one_of players piece.object) as (λ b. IsOnLayer layers layer (cond b (Some (record { object = piece.object; heading = Some dir })) (Some piece))) [ true ↦ h | false ↦ h ]

pub lawful-pushed : (players : List ℕ) (dir : Dir) (grid : Grid) → IsLawful grid → IsLawful (pushed_level players dir grid)
lawful-pushed players dir grid h = lawful-map grid (map (pushed_place players dir)) (keeps_cell-map grid.depth grid.layers (pushed_place players dir) (pushed_on_layer players dir grid.layers)) h

pub lawful-resolved : (grid : Grid) → IsLawful grid → IsLawful (after_movement grid)
lawful-resolved grid h = lawful-stilled (settle (moving grid) grid) (lawful-settle (moving grid) grid h)
