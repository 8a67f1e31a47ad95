-- The movement of a step. A pass goes column by column from the left, each from the top, and in a cell layer by layer. What
-- heads somewhere moves one cell if its target is on the map and free on its layer; then it is still. Passes repeat until one
-- moves nothing; then all is still. The action moves nothing.
use Rattle.std.specs.Prelude.{◌≡◌, ◌<◌, ◌≤◌, ℕ, zero, suc, ◌+◌, ◌-◌, List, map, fold, Bool, true, false, Option, Some, None, nat_lt, if◌then◌else◌}
use Rattle.std.specs.List.{flat_map, range_with_len, sum_by}
use Rattle.pz_game.specs.declared.limits.TheConstants.{MOST_LAYERS}
use Rattle.pz_game.specs.declared.direction.Dir.{Dir}
use Rattle.pz_game.specs.declared.direction.Dir.TheVariants.{Up, Down, Left, Right, Action}
use Rattle.pz_cells.specs.declared.piece.Piece.{Piece}
use Rattle.pz_cells.specs.declared.piece.Mover.{Mover}
use Rattle.pz_cells.specs.Cell.{moving_piece, still_piece}
use Rattle.pz_sets.specs.declared.set.TheConstants.{CAPACITY}
use Rattle.pz_sheet.specs.Grid.{IsOnMap, Grid, place_at, with_place}
use Rattle.pz_sheet.specs.Movement.{still_level}

-- move.action: the next position in a direction, if it is on the map
abbrev pub neighbour : Grid → Dir → ℕ → ℕ → Option (ℕ × ℕ)
neighbour grid Up x y = if nat_lt 0 y then Some (x, y - 1) else None
neighbour grid Down x y = if nat_lt (y + 1) grid.height then Some (x, y + 1) else None
neighbour grid Left x y = if nat_lt 0 x then Some (x - 1, y) else None
neighbour grid Right x y = if nat_lt (x + 1) grid.width then Some (x + 1, y) else None
neighbour grid Action x y = None

abbrev pub unless_taken : ℕ × ℕ → Option Piece → Option (ℕ × ℕ)
unless_taken position None = Some position
unless_taken position (Some _) = None

-- the position, if nothing stands on this layer there
abbrev pub free : Grid → ℕ → Option (ℕ × ℕ) → Option (ℕ × ℕ)
free grid layer None = None
free grid layer (Some position) = unless_taken position (place_at grid position.0 position.1 layer)

-- one layer of one position
pub record Spot : Type 0 where
  pub x : ℕ
  pub y : ℕ
  pub layer : ℕ

abbrev pub spot : ℕ → ℕ → ℕ → Spot
spot x y layer = record { x = x; y = y; layer = layer }

-- move.object: where a piece with this heading goes, if it can
abbrev pub heading_goal : Grid → Spot → Option Dir → Option (ℕ × ℕ)
heading_goal grid spot None = None
heading_goal grid spot (Some dir) = free grid spot.layer (neighbour grid dir spot.x spot.y)

-- the level during a pass, and whether something has moved so far
pub record Pass : Type 0 where
  pub grid : Grid
  pub moved : Bool

abbrev pub in_pass : Grid → Bool → Pass
in_pass grid moved = record { grid = grid; moved = moved }

-- move.object: a piece moves from a spot to its goal, and is still there
abbrev pub moved_to : Pass → Spot → Piece → Option (ℕ × ℕ) → Pass
moved_to pass spot piece None = pass
moved_to pass spot piece (Some (x, y)) =
    in_pass (with_place (with_place pass.grid spot.x spot.y spot.layer None) x y spot.layer (Some (still_piece piece.object))) true

abbrev pub move_place : Pass → Spot → Option Piece → Pass
move_place pass spot None = pass
move_place pass spot (Some piece) = moved_to pass spot piece (heading_goal pass.grid spot piece.heading)

-- what stands at a spot moves, if it can
abbrev pub move_at : Pass → Spot → Pass
move_at pass spot = move_place pass spot (place_at pass.grid spot.x spot.y spot.layer)

-- what stands at a spot stays there
abbrev pub Stays : Grid → Spot → Type 0
Stays grid spot = (moved : Bool) → move_at (in_pass grid moved) spot ≡ in_pass grid moved

-- what stands on the layers of a position from one on and before another stays there
abbrev pub AllStay : Grid → ℕ → ℕ → ℕ → ℕ → Type 0
AllStay grid x y from end = (layer : ℕ) → from ≤ layer → layer < end → Stays grid (spot x y layer)

-- a piece leaves a position for another
pub record Leaves (grid : Grid) (x y : ℕ) (mover : Mover) (goal : ℕ × ℕ) : Type 0 where
  pub there : place_at grid x y mover.layer ≡ Some (moving_piece mover)
  pub goes : heading_goal grid (spot x y mover.layer) (Some mover.dir) ≡ Some goal
  pub on_map : IsOnMap grid goal.0 goal.1
  pub layer_in : mover.layer < grid.depth
  pub shallow : mover.layer < MOST_LAYERS
  pub low : mover.object < CAPACITY

-- the first piece that leaves a position, on a layer from one on, and where it goes, if there is one
abbrev pub IsNextLeaving : Grid → ℕ → ℕ → ℕ → Option (Mover × (ℕ × ℕ)) → Type 0
IsNextLeaving grid x y from None = AllStay grid x y from grid.depth
IsNextLeaving grid x y from (Some (mover, goal)) = (from ≤ mover.layer) × Leaves grid x y mover goal × AllStay grid x y from mover.layer

abbrev pub spots_at : ℕ → ℕ → ℕ → List Spot
spots_at depth x y = map (spot x y) (range_with_len 0 depth)

abbrev pub spots_in : ℕ → ℕ → ℕ → List Spot
spots_in depth height x = flat_map (spots_at depth x) (range_with_len 0 height)

-- all spots in the order of a pass: column by column, from the top, layers in order
abbrev pub spots : Grid → List Spot
spots grid = flat_map (spots_in grid.depth grid.height) (range_with_len 0 grid.width)

-- move.order
abbrev pub pass_of : Grid → Pass
pass_of grid = fold move_at (in_pass grid false) (spots grid)

abbrev pub heading_count : Option Dir → ℕ
heading_count None = 0
heading_count (Some _) = 1

abbrev pub heads : Option Piece → ℕ
heads None = 0
heads (Some piece) = heading_count piece.heading

-- how many pieces head somewhere
abbrev pub moving : Grid → ℕ
moving grid = sum_by (sum_by heads) grid.cells

-- passes up to the first without a move, at most n of them
abbrev pub settle : ℕ → Grid → Grid
settle zero grid = grid
settle (suc n) grid = if (pass_of grid).moved then settle n (pass_of grid).grid else grid

-- move.passes: the movement: each pass with a move stills a piece, so there are at most as many of them as pieces that head
-- somewhere
abbrev pub after_movement : Grid → Grid
after_movement grid = still_level (settle (moving grid) grid)
