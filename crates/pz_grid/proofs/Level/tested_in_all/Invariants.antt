use Rattle.pz_grid.proofs.Common.{MOST_SIDE, line_length, places, range_with_len, starts_in, sum_by, ◌*◌, ◌≤◌}
use Rattle.pz_grid.proofs.SkipLemmas.{searched_lines}
use Rattle.pz_grid.proofs.Level.tested_in_all.Given as goal

abbrev pub invariant-loop-line : goal.invariant-loop-line
invariant-loop-line l = record {
  high : l.tested ≤ searched_lines l.self l.row l.dir l.line * line_length l.self.grid l.dir;
  low : sum_by (starts_in l.dir (places l.self.grid l.row l.dir) (line_length l.self.grid l.dir)) (range_with_len 0 l.line) ≤ l.tested;
  few : l.tested ≤ MOST_SIDE * l.line;
}
