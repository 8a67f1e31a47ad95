use Rattle.pz_cells.proofs.Common.{◌≡◌, ℕ, ◌<◌, ◌≤◌, length, get_or, Cell, IsStilled}
use Rattle.pz_cells.proofs.stilling.still_cells.Given as goal

abbrev pub invariant-loop-index : goal.invariant-loop-index
invariant-loop-index g l = record {
  long : length l.cells.items ≡ length l.initial.cells.items;
  stilled : (k : ℕ) (cell : Cell g.row.N) → l.from ≤ k → k < l.index → IsStilled l.layers (get_or l.initial.cells.items k cell) (get_or l.cells.items k cell);
  before : (k : ℕ) (cell : Cell g.row.N) → k < l.from → get_or l.cells.items k cell ≡ get_or l.initial.cells.items k cell;
  behind : (k : ℕ) (cell : Cell g.row.N) → l.index ≤ k → get_or l.cells.items k cell ≡ get_or l.initial.cells.items k cell;
}
