use Rattle.pz_grid_laws.proofs.LawfulLemmas.{lawful-pushed, lawful-resolved}
use Rattle.pz_grid_laws.proofs.laws.levels_stay_lawful.Goals as goal

pub returns : goal.returns
returns c = λ grid h. (λ players dir. lawful-pushed players dir grid h, lawful-resolved grid h)
