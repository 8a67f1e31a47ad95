use Rattle.std.proofs.Common.{◌||◌, arith, refl}
use Rattle.pz_sets.proofs.SetLemmas.{by_words}
use Rattle.pz_sets.proofs.set.NumberSet.union.Goals as goal

pub returns : goal.returns
returns c = rw (← c.self.view_is, ← c.added.view_is) (by_words (λ x y. x || y) _ _ _ _ c.self.inside.words c.added.inside.words (omega (arith, c.self.told)) (omega (arith, c.added.told)) refl c.union.ensures c.union-2.ensures c.union-3.ensures c.union-4.ensures)
