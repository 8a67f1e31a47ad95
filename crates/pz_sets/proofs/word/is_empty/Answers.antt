use Rattle.std.proofs.Common.{arith, sym, ◌∙◌, eq-eqb}
use Rattle.pz_sets.proofs.WordLemmas.{same_below, in_word-zero}
use Rattle.pz_sets.proofs.word.is_empty.Goals as goal

pub returns : goal.returns
returns c = (
  λ t bit low. grind (arith, in_word-zero bit),
  λ h. eq-eqb _ _ (same_below c.args.word 0 c.ranges.word.fits (omega arith) (λ i low. h i low ∙ sym (in_word-zero i))),
)
