use Rattle.pz_sheet.proofs.Common.{ℕ, ◌≡◌, ◌<◌, length, get_or, Cell, IsNoted}
use Rattle.pz_sheet.proofs.noting.renew_notes.Given as goal

abbrev pub invariant-loop-index : goal.invariant-loop-index
invariant-loop-index g l = record {
  row_count : length l.notes.rows ≡ length l.initial.notes.rows;
  column_count : length l.notes.columns ≡ length l.initial.notes.columns;
  each : (number : ℕ) (cell : Cell g.row.N) → number < l.index → IsNoted g.row.N (length l.initial.notes.columns) l.notes number (get_or l.cells number cell);
}
