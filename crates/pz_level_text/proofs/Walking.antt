-- The positions of a level's cells.
use Rattle.pz_level_text.proofs.Common.{common_steps, ℕ, ◌*◌, ◌<◌, arith, Grid, Order, IsAt}
use Rattle.std.proofs.Math.Nat.{mod-lt, div-lt_iff_lt-mul}
use Rattle.pz_record.specs.declared.order.Order.TheVariants.{Rows, Columns}

-- a number of a cell stands on the map
pub on_map : (order : Order) (grid : Grid) (k x y : ℕ) → k < grid.width * grid.height → 0 < grid.width → 0 < grid.height → IsAt order grid k x y → (x < grid.width) × (y < grid.height)
on_map order grid k x y within wide high at = grind (arith, common_steps, mod-lt, div-lt_iff_lt-mul)
