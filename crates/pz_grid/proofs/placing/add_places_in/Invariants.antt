use Rattle.pz_grid.proofs.Common.{dir_of, gather, line_length, ◌++◌, ◌-◌, ◌≡◌, ◌≤◌}
use Rattle.pz_grid.proofs.FoundLemmas.{found_at}
use Rattle.pz_grid.proofs.placing.add_places_in.Given as goal

abbrev pub invariant-starts : goal.invariant-starts
invariant-starts g l = record {
  added : l.found ≡ l.initial.found ++ gather (found_at l.sheet.grid l.row (dir_of l.walk) l.walk.line.number) l.from;
  within : l.from ≤ line_length l.sheet.grid (dir_of l.walk);
}

abbrev pub decreases-starts : goal.decreases-starts
decreases-starts g l = line_length l.sheet.grid (dir_of l.walk) - l.from
