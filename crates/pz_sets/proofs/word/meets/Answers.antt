use Rattle.std.proofs.Common.{arith}
use Rattle.pz_sets.proofs.word.meets.Goals as goal

pub returns : goal.returns
returns c = (
  λ t. (
    λ bit low. grind (arith, c.is_empty.ensures.0 t bit low, c.differing.ensures bit, c.common-picked.ensures bit, c.differing-apart.ensures bit),
    λ bit low. grind (arith, c.is_empty.ensures.0 t bit low, c.differing.ensures bit, c.common-picked.ensures bit, c.differing-apart.ensures bit),
  ),
  λ h. c.is_empty.ensures.1 (λ bit low. grind (arith, h.0 bit low, h.1 bit low, c.differing.ensures bit, c.common-picked.ensures bit, c.differing-apart.ensures bit)),
)
