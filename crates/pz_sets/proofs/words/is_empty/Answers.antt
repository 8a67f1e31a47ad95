use Rattle.std.proofs.Common.{◌%◌, ◌*◌, ◌+◌, arith, refl, sym, ◌∙◌}
use Rattle.std.proofs.lemmas.Grind.{common_steps}
use Rattle.pz_sets.proofs.WordsLemmas.{number_at, member_missing}
use Rattle.pz_sets.proofs.words.is_empty.Goals as goal

pub loop-index-preserved : goal.loop-index-preserved
loop-index-preserved c number low = grind (arith, common_steps, c.loop-index.invariant number, c.is_empty.ensures.0 c.if-not-is_empty.false (number % 128) (omega arith))

pub returns-then-not-is_empty : goal.returns-then-not-is_empty
returns-then-not-is_empty c = (
  λ t. cc,
  λ h. sym c.if-not-is_empty.true ∙ c.is_empty.ensures.1 (λ bit low. grind (arith, common_steps, number_at c.loop-index.index bit low, h (128 * c.loop-index.index + bit))),
)

pub returns : goal.returns
returns c = (λ t number. grind (arith, common_steps, c.loop-index.invariant number, member_missing c.args.words.now number), λ h. refl)
