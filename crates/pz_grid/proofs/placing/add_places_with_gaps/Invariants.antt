use Rattle.pz_grid.proofs.Common.{dir_of, gather, line_length, ◌++◌, ◌-◌, ◌≡◌, ◌≤◌}
use Rattle.pz_grid.proofs.FoundLemmas.{found_with}
use Rattle.pz_grid.proofs.placing.add_places_with_gaps.Given as goal

abbrev pub invariant-gaps : goal.invariant-gaps
invariant-gaps g l = record {
  added : l.found ≡ l.initial.found ++ gather (found_with l.sheet.grid l.row (dir_of l.walk) l.walk.line.number l.start) l.from;
  within : l.from ≤ line_length l.sheet.grid (dir_of l.walk);
}

abbrev pub decreases-gaps : goal.decreases-gaps
decreases-gaps g l = line_length l.sheet.grid (dir_of l.walk) - l.from
