use Rattle.std.proofs.Common.{◌≡◌, ◌-◌, ◌++◌, drop, length, ◌+◌}
use Rattle.pz_source.specs.Levels.{row_of_length}
use Rattle.pz_source.proofs.levels.add_row.Given as goal

abbrev pub invariant-loop-column : goal.invariant-loop-column
invariant-loop-column l = record {
  cells : l.cells.items ++ row_of_length (l.width - l.column) l.last (drop l.column l.row) ≡ l.initial.cells.items ++ row_of_length l.width 0 l.row;
  count : length l.cells.items ≡ length l.initial.cells.items + l.column;
}
