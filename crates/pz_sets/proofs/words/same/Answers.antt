use Rattle.std.proofs.Common.{◌%◌, ◌*◌, ◌+◌, ◌/◌, inl, inr, arith, refl, sym, ◌∙◌}
use Rattle.std.proofs.lemmas.Bool.{cases_eq}
use Rattle.std.proofs.lemmas.Grind.{common_steps}
use Rattle.pz_sets.proofs.WordsLemmas.{number_at, member_missing}
use Rattle.pz_sets.proofs.words.same.Goals as goal

pub loop-index-preserved : goal.loop-index-preserved
loop-index-preserved c number low = elim (cases_eq (number / 128) c.loop-index.index) [
  | inl here ↦ cc (c.same.ensures.0 c.if-not-same.false (number % 128) (omega arith))
  | inr other ↦ c.loop-index.invariant number (omega (arith, other))
]

pub returns-then-not-same : goal.returns-then-not-same
returns-then-not-same c = (
  λ t. cc,
  λ h. sym c.if-not-same.true ∙ c.same.ensures.1 (λ bit low. grind (arith, common_steps, number_at c.loop-index.index bit low, h (128 * c.loop-index.index + bit))),
)

pub returns : goal.returns
returns c = (λ t number. grind (arith, common_steps, c.loop-index.invariant number, member_missing c.args.words.now number, member_missing c.args.others.now number), λ h. refl)
