use Rattle.pz_grid.proofs.FoundLemmas.{searched-gives}
use Rattle.pz_grid.proofs.placing.places_counted.Goals as goal

pub returns-clause-low : goal.returns-clause-low
returns-clause-low c = rw (searched-gives c.args.level.now.grid c.args.row.now c.args.dir _ c.in_ok-found.ensures.found) c.tested_in_all-tested.ensures.low
