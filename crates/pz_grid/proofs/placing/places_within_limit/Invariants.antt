use Rattle.pz_grid.proofs.Common.{gather, ◌≡◌}
use Rattle.pz_grid.proofs.FoundLemmas.{found_in}
use Rattle.pz_grid.proofs.placing.places_within_limit.Given as goal

abbrev pub invariant-loop-line : goal.invariant-loop-line
invariant-loop-line l = l.found ≡ gather (found_in l.level.grid l.row l.dir) l.line
