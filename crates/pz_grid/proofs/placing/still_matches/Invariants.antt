use Rattle.pz_grid.proofs.Common.{list_all, still_holds, take, true, zip, ◌≡◌}
use Rattle.pz_grid.proofs.placing.still_matches.Given as goal

abbrev pub invariant-loop-index : goal.invariant-loop-index
invariant-loop-index l = list_all (still_holds l.level.grid l.instance.scan) (take l.index (zip l.rows l.places)) ≡ true
