use Rattle.std.proofs.Common.{arith, eq-eqb}
use Rattle.pz_sets.proofs.WordLemmas.{same_below}
use Rattle.pz_sets.proofs.word.same.Goals as goal

pub returns : goal.returns
returns c = (λ t bit low. grind arith, λ h. eq-eqb _ _ (same_below c.args.word c.args.other c.ranges.word.fits c.ranges.other.fits h))
