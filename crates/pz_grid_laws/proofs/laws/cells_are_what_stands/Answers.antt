use Rattle.std.proofs.Common.{sym, ◌∙◌}
use Rattle.pz_grid_laws.proofs.StandingLemmas.{same_from_standing}
use Rattle.pz_grid_laws.proofs.laws.cells_are_what_stands.Goals as goal

pub returns : goal.returns
returns c = λ depth layers a b ha hb same. same_from_standing layers a b (ha.deep ∙ sym hb.deep) ha.on_layers hb.on_layers same
