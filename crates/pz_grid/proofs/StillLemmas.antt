-- A cell in which nothing heads anywhere is left as it is by a pass, and so are rows of such cells, and columns of such rows.
use Rattle.pz_grid.proofs.Common.{AllStay, AreColumnsStill, AreStill, Bool, Grid, IsStillAt, IsStillOn, List, Mover, None, Option, Pass, Piece, Some, Spot, Stays, [], ap, arith, cases_lt, cell_at, common_steps, false, fold, fold_gather_more, fold_map_more, gather, get_or, heading_goal, in_pass, inl, inr, map, map-set, move_at, move_place, moved_to, moving_piece, pass_of, place_at, range_with_len, refl, spot, spots_at, spots_in, steps_stay, still_piece, still_place, suc, with_place, zero, ℕ, ◌+◌, ◌<◌, ◌∙◌, ◌∷◌, ◌≡◌, ◌≤◌}
use Rattle.pz_grid.proofs.StayLemmas.{kept_by_moves}

still_at : (cell : List (Option Piece)) (layer : ℕ) → get_or (map still_place cell) layer None ≡ still_place (get_or cell layer None)
still_at [] layer = refl
still_at (place ∷ cell) zero = refl
still_at (place ∷ cell) (suc layer) = still_at cell layer

pub stays : (pass : Pass) (at : Spot) (place : Option Piece) → place ≡ still_place place → move_place pass at place ≡ pass
stays pass at place is = grind (arith, is)

pub all_stay : (grid : Grid) (moved : Bool) (x y : ℕ) (layers : List ℕ) → cell_at grid x y ≡ map still_place (cell_at grid x y)
    → fold move_at (in_pass grid moved) (map (spot x y) layers) ≡ in_pass grid moved
all_stay grid moved x y [] is = refl
all_stay grid moved x y (layer ∷ layers) is =
    let here : place_at grid x y layer ≡ still_place (place_at grid x y layer) = ap (λ (cell : List (Option Piece)). get_or cell layer None) is ∙ still_at (cell_at grid x y) layer in
    ap (λ (pass : Pass). fold move_at pass (map (spot x y) layers)) (stays (in_pass grid moved) (spot x y layer) (place_at grid x y layer) here) ∙ all_stay grid moved x y layers is

-- a piece that goes nowhere stays
pub blocked : (grid : Grid) (x y : ℕ) (mover : Mover) → place_at grid x y mover.layer ≡ Some (moving_piece mover) → heading_goal grid (spot x y mover.layer) (Some mover.dir) ≡ None → Stays grid (spot x y mover.layer)
blocked grid x y mover there none moved = grind (arith, there, none)

-- more layers on which nothing heads anywhere
pub all_stay_on : (grid : Grid) (x y from start end : ℕ) → AllStay grid x y from start → ((layer : ℕ) → start ≤ layer → layer < end → IsStillOn (cell_at grid x y) layer) → AllStay grid x y from end
all_stay_on grid x y from start end before still layer late early = elim (cases_lt layer start) [
  | inl first ↦ before layer late first
  | inr past ↦ λ moved. stays (in_pass grid moved) (spot x y layer) (place_at grid x y layer) (still layer past early)
]

-- one more layer
pub all_stay_more : (grid : Grid) (x y from layer : ℕ) → AllStay grid x y from layer → Stays grid (spot x y layer) → AllStay grid x y from (layer + 1)
all_stay_more grid x y from layer before here other late early moved = grind (arith, λ (h : other < layer). before other late h moved, here moved, early)

-- layers on which everything stays leave a pass as it is
pub layers_stay : (start : Pass) (grid : Grid) (moved : Bool) (x y from end : ℕ) → from ≤ end → fold move_at start (map (spot x y) (range_with_len 0 from)) ≡ in_pass grid moved → AllStay grid x y from end → fold move_at start (map (spot x y) (range_with_len 0 end)) ≡ in_pass grid moved
layers_stay start grid moved x y from end low so_far stay =
    steps_stay (λ k. fold move_at start (map (spot x y) (range_with_len 0 k))) (λ k pass. move_at pass (spot x y k)) (in_pass grid moved) from end low (fold_map_more move_at start (spot x y)) so_far (λ k late below. stay k late below moved)

-- so do rows of a column in which nothing heads anywhere
pub rows_stay : (start : Pass) (grid : Grid) (moved : Bool) (x depth from end : ℕ) → from ≤ end → fold move_at start (gather (spots_at depth x) from) ≡ in_pass grid moved
    → AreStill grid x from end → fold move_at start (gather (spots_at depth x) end) ≡ in_pass grid moved
rows_stay start grid moved x depth from end low so_far still =
    steps_stay (λ k. fold move_at start (gather (spots_at depth x) k)) (λ k pass. fold move_at pass (spots_at depth x k)) (in_pass grid moved) from end low (fold_gather_more move_at start (spots_at depth x)) so_far (λ y late below. all_stay grid moved x y (range_with_len 0 depth) (still y late below))

-- and such columns
pub columns_stay : (start : Pass) (grid : Grid) (moved : Bool) (depth height from end : ℕ) → grid.height ≡ height → from ≤ end → fold move_at start (gather (spots_in depth height) from) ≡ in_pass grid moved
    → AreColumnsStill grid from end → fold move_at start (gather (spots_in depth height) end) ≡ in_pass grid moved
columns_stay start grid moved depth height from end high low so_far still =
    steps_stay (λ k. fold move_at start (gather (spots_in depth height) k)) (λ k pass. fold move_at pass (spots_in depth height k)) (in_pass grid moved) from end low (fold_gather_more move_at start (spots_in depth height)) so_far
    (λ x late below. rows_stay (in_pass grid moved) grid moved x depth 0 height (omega arith) refl (λ y from_top y_in. still x late below y from_top (omega (arith, y_in, high))))

-- a cell in which nothing heads anywhere stays so where a still piece or nothing is put
put_still : (grid : Grid) (px py layer : ℕ) (place : Option Piece) (x y : ℕ) → place ≡ still_place place → IsStillAt grid x y → IsStillAt (with_place grid px py layer place) x y
put_still grid px py layer place x y is still = grind (arith, common_steps, is, still, map-set still_place)

still_moved_to : (x y : ℕ) (pass : Pass) (at : Spot) (piece : Piece) (goal : ℕ × ℕ) → IsStillAt pass.grid x y → IsStillAt (moved_to pass at piece (Some goal)).grid x y
still_moved_to x y pass at piece goal still =
    put_still (with_place pass.grid at.x at.y at.layer None) goal.0 goal.1 at.layer (Some (still_piece piece.object)) x y refl (put_still pass.grid at.x at.y at.layer None x y refl still)

-- so it does in a part of a pass
pub still_on : (old new : Grid) (before after : Bool) (ats : List Spot) → in_pass new after ≡ fold move_at (in_pass old before) ats → (x y : ℕ) → IsStillAt old x y → IsStillAt new x y
still_on old new before after ats part x y still =
    grind (arith, part, kept_by_moves (λ (pass : Pass). IsStillAt pass.grid x y) (λ pass at piece goal _ _. still_moved_to x y pass at piece goal) ats (in_pass old before) still)

-- a level in which nothing heads anywhere is left as it is
pub pass_rests : (grid : Grid) → AreColumnsStill grid 0 grid.width → pass_of grid ≡ in_pass grid false
pass_rests grid still = columns_stay (in_pass grid false) grid false grid.depth grid.height 0 grid.width refl (omega arith) refl still
