use Rattle.std.proofs.Common.{◌&&◌, arith, refl}
use Rattle.pz_sets.proofs.SetLemmas.{by_words}
use Rattle.pz_sets.proofs.set.NumberSet.common.Goals as goal

pub returns : goal.returns
returns c = rw (← c.self.view_is, ← c.other.view_is) (by_words (λ x y. x && y) _ _ _ _ c.self.inside.words c.other.inside.words (omega (arith, c.self.told)) (omega (arith, c.other.told)) refl c.common.ensures c.common-2.ensures c.common-3.ensures c.common-4.ensures)
