use Rattle.std.proofs.Common.{arith, sym, ◌∙◌, eq-eqb}
use Rattle.pz_sets.proofs.WordLemmas.{same_below, in_word-zero}
use Rattle.pz_planes.proofs.bits.is_empty.Goals as goal

pub returns-clause-none : goal.returns-clause-none
returns-clause-none c = (
  λ t at low. grind (arith, in_word-zero at),
  λ h. eq-eqb _ _ (same_below c.args.set 0 c.ranges.set.fits (omega arith) (λ i low. h i low ∙ sym (in_word-zero i))),
)
