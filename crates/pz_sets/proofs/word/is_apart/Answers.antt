use Rattle.std.proofs.Common.{arith, eq-eqb}
use Rattle.pz_sets.proofs.WordLemmas.{in_word-and, in_word-zero, same_below}
use Rattle.std.proofs.lemmas.Nat.{and_le_r}
use Rattle.pz_sets.proofs.word.is_apart.Goals as goal

pub returns : goal.returns
returns c = (
  λ t bit low. grind (arith, in_word-and c.args.word c.args.unwanted bit, in_word-zero bit),
  λ h. eq-eqb _ _ (same_below _ 0 (omega (arith, and_le_r c.args.word c.args.unwanted, c.ranges.unwanted.fits)) (omega arith) (λ i low. grind (arith, in_word-and c.args.word c.args.unwanted i, in_word-zero i, h i low))),
)
