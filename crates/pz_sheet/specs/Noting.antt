-- Planes that have exactly where the objects of a level stand.
use Rattle.std.specs.Prelude.{◌≡◌, ℕ, ◌+◌, ◌*◌, ◌<◌, ◌≤◌, List, false, slice_index_or}
use Rattle.pz_sets.specs.Sets.{member}
use Rattle.pz_planes.specs.Planes.{PlaneSets, stands_in, AreThere, IsFor}
use Rattle.pz_cells.specs.declared.cell.Cell.{Cell}

-- at each position exactly the objects of the cell there are noted
abbrev pub AreAllThere : (N width height : ℕ) → PlaneSets → List (Cell N) → Type 0
AreAllThere N width height planes cells = (x y : ℕ) (cell : Cell N) → x < width → y < height → AreThere planes x y (member (slice_index_or cells (y * width + x) cell).objects)

-- nothing is noted behind the last position of a line
pub record EndWithin (width height : ℕ) (planes : PlaneSets) : Type 0 where
  pub rows : (object line at : ℕ) → line < height → width ≤ at → at < 128 → stands_in planes.rows object line at ≡ false
  pub columns : (object line at : ℕ) → line < width → height ≤ at → at < 128 → stands_in planes.columns object line at ≡ false

-- the planes are for the objects and the lines of a level, and each object is noted where it stands and nowhere else
pub record ArePlaced (N objects width height : ℕ) (planes : PlaneSets) (cells : List (Cell N)) : Type 0 where
  pub fits : IsFor objects width height planes
  pub there : AreAllThere N width height planes cells
  pub ends : EndWithin width height planes
