-- What lemmas of the crate below say already, as a law says it.
use Rattle.pz_grid.proofs.CountLemmas.{searched-gapless}
use Rattle.pz_grid.proofs.PlaceLemmas.{holds_from_place, place_from_holds}
use Rattle.pz_grid.proofs.SameLemmas.{same_grid_decides}
use Rattle.pz_grid.proofs.SettleLemmas.{fewer_from_moved, resolved_rests, resolved_still, settled_rests}
use Rattle.pz_grid.proofs.SkipLemmas.{admitted_none}

pub ruleset known_laws = (searched-gapless, holds_from_place, place_from_holds, same_grid_decides, fewer_from_moved, resolved_rests, resolved_still, settled_rests, admitted_none)
