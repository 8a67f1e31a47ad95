use Rattle.pz_grid.proofs.SkipLemmas.{starts_bounded}
use Rattle.pz_grid_laws.proofs.rule_laws.places_start_in_admitted_lines.Goals as goal

pub returns-clause-bounded : goal.returns-clause-bounded
returns-clause-bounded c = λ state row dir h. starts_bounded state row dir h
