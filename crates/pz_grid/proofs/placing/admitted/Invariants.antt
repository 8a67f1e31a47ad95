use Rattle.pz_grid.proofs.Common.{admits_line, count_by, range_with_len, ◌≡◌, ◌≤◌}
use Rattle.pz_grid.proofs.placing.admitted.Given as goal

abbrev pub invariant-loop-line : goal.invariant-loop-line
invariant-loop-line l = record {
  counted : l.count ≡ count_by (admits_line l.level l.row l.dir) (range_with_len 0 l.line);
  few : l.count ≤ l.line;
}
