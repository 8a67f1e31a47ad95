-- The passes of the movement end.
use Rattle.pz_grid.proofs.Common.{Grid, List, None, Option, Pass, Piece, Some, Spot, [], arith, cell_at, cond, false, get_or, get_or_past, heading_count, heading_goal, heads, in_pass, map, moved_to, moving, pass_of, place_at, refl, after_movement, set, set_past, settle, spots, still_piece, still_place, suc, sum_by, sum_by-cons, sum_by-set, true, with_place, zero, ℕ, ◌*◌, ◌+◌, ◌<◌, ◌∷◌, ◌≡◌, ◌≤◌}
use Rattle.pz_grid.proofs.StayLemmas.{kept_by_moves}

-- a write of what counts for no more adds nothing
sum_by-set-le : {X : Type 0} (f : X → ℕ) (xs : List X) (i : ℕ) (y d : X) → f y ≤ f (get_or xs i d) → sum_by f (set xs i y) ≤ sum_by f xs
sum_by-set-le f xs i y d h = grind (arith, h, sum_by-set f xs i y d, set_past xs i y)

-- to put a still piece adds no moving one
pub moving-put_still : (grid : Grid) (x y layer : ℕ) (place : Option Piece) → heads place ≡ 0 → moving (with_place grid x y layer place) ≤ moving grid
moving-put_still grid x y layer place e =
    sum_by-set-le (sum_by heads) grid.cells (y * grid.width + x) (set (cell_at grid x y) layer place) [] (sum_by-set-le heads (cell_at grid x y) layer place None (omega (arith, e)))

-- to take a moving piece away leaves one fewer
pub moving-take : (grid : Grid) (x y layer : ℕ) (piece : Piece) → place_at grid x y layer ≡ Some piece → heading_count piece.heading ≡ 1 → moving (with_place grid x y layer None) + 1 ≡ moving grid
moving-take grid x y layer piece e one =
    let cell = cell_at grid x y in
    let outer = sum_by-set (sum_by heads) grid.cells (y * grid.width + x) (set cell layer None) [] in
    grind (arith, e, one, outer, sum_by-set heads cell layer None None, get_or_past cell layer None, get_or_past grid.cells (y * grid.width + x) [])

-- how a pass stands to the level before it: with a move fewer pieces head somewhere, without one nothing changed
pub record Progress (grid : Grid) (pass : Pass) : Type 0 where
  pub fewer : moving pass.grid + cond pass.moved 1 0 ≤ moving grid
  pub same : pass.moved ≡ false → pass.grid ≡ grid

progress-moved_to : (grid : Grid) (pass : Pass) (at : Spot) (piece : Piece) (goal : ℕ × ℕ) → place_at pass.grid at.x at.y at.layer ≡ Some piece → heading_goal pass.grid at piece.heading ≡ Some goal → Progress grid pass → Progress grid (moved_to pass at piece (Some goal))
progress-moved_to grid pass at piece goal e g p =
    let taken = moving-take pass.grid at.x at.y at.layer piece e (grind (arith, g)) in
    let put = moving-put_still (with_place pass.grid at.x at.y at.layer None) goal.0 goal.1 at.layer (Some (still_piece piece.object)) refl in
    record { fewer = omega (arith, taken, put, p.fewer); same = λ f. cc }

pub progress-pass : (grid : Grid) → Progress grid (pass_of grid)
progress-pass grid = kept_by_moves (Progress grid) (progress-moved_to grid) (spots grid) (in_pass grid false) (record { fewer = omega arith; same = λ _. refl })

-- a pass with a move leaves fewer moving pieces
pub fewer_from_moved : (grid : Grid) → (pass_of grid).moved ≡ true → moving (pass_of grid).grid < moving grid
fewer_from_moved grid e = grind (arith, e, (progress-pass grid).fewer)

-- what settles is the same for every number of passes that is large enough
pub settle_enough : (n m : ℕ) (grid : Grid) → moving grid ≤ n → moving grid ≤ m → settle n grid ≡ settle m grid
settle_enough zero zero grid p q = refl
settle_enough zero (suc m) grid p q = grind (arith, fewer_from_moved grid)
settle_enough (suc n) zero grid p q = grind (arith, fewer_from_moved grid)
settle_enough (suc n) (suc m) grid p q = grind (arith, fewer_from_moved grid, settle_enough n m (pass_of grid).grid)

-- one pass with a move
pub settle_moved : (grid : Grid) → (pass_of grid).moved ≡ true → settle (moving grid) grid ≡ settle (moving (pass_of grid).grid) (pass_of grid).grid
settle_moved grid e =
    grind (arith, e, fewer_from_moved grid, settle_enough (moving grid) (suc (moving grid)) grid, settle_enough (moving grid) (moving (pass_of grid).grid) (pass_of grid).grid)

-- a pass without a move
pub settle_done : (grid : Grid) → (pass_of grid).moved ≡ false → settle (moving grid) grid ≡ (pass_of grid).grid
settle_done grid e = grind (arith, e, settle_enough (moving grid) (suc (moving grid)) grid, (progress-pass grid).same)

-- with enough passes nothing moves any more
pub settled_rests : (n : ℕ) (grid : Grid) → moving grid ≤ n → (pass_of (settle n grid)).moved ≡ false
settled_rests zero grid p = grind (arith, fewer_from_moved grid)
settled_rests (suc n) grid p = grind (arith, fewer_from_moved grid, settled_rests n (pass_of grid).grid)

none_together : {X : Type 0} (f : X → ℕ) (still : X → X) (xs : List X) → ((x : X) → f (still x) ≡ 0) → sum_by f (map still xs) ≡ 0
none_together f still [] none = refl
none_together f still (x ∷ xs) none = grind (arith, sum_by-cons f (still x) (map still xs), none x, none_together f still xs none)

-- after the movement nothing heads anywhere, and so nothing moves any more
pub resolved_still : (grid : Grid) → moving (after_movement grid) ≡ 0
resolved_still grid = none_together (sum_by heads) (map still_place) (settle (moving grid) grid).cells (λ cell. none_together heads still_place cell (λ place. grind arith))

pub resolved_rests : (grid : Grid) → (pass_of (after_movement grid)).moved ≡ false
resolved_rests grid = grind (arith, fewer_from_moved (after_movement grid), resolved_still grid)
