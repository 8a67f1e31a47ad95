use Rattle.std.proofs.Common.{arith, eq-eqb}
use Rattle.pz_sets.proofs.WordLemmas.{in_word-and, same_below}
use Rattle.std.proofs.lemmas.Nat.{and_le_r}
use Rattle.pz_sets.proofs.word.covers.Goals as goal

pub returns : goal.returns
returns c = (
  λ t bit low. grind (arith, in_word-and c.args.word c.args.wanted bit),
  λ h. eq-eqb _ _ (same_below _ c.args.wanted (omega (arith, and_le_r c.args.word c.args.wanted, c.ranges.wanted.fits)) c.ranges.wanted.fits (λ i low. grind (arith, in_word-and c.args.word c.args.wanted i, h i low))),
)
