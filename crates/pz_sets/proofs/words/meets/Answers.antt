use Rattle.std.proofs.Common.{◌+◌, ◌*◌, ◌%◌, arith, refl, sym, ◌∙◌}
use Rattle.std.proofs.lemmas.Grind.{common_steps}
use Rattle.pz_sets.proofs.WordsLemmas.{number_at}
use Rattle.pz_sets.proofs.words.meets.Goals as goal

pub loop-index-preserved : goal.loop-index-preserved
loop-index-preserved c =
    let met = c.meets.ensures.0 c.if-not-meets.false in
    record {
      wanted = λ number low. grind (arith, common_steps, c.loop-index.invariant.wanted number, met.0 (number % 128) (omega arith));
      unwanted = λ number low. grind (arith, common_steps, c.loop-index.invariant.unwanted number, met.1 (number % 128) (omega arith));
    }

pub returns-then-not-meets : goal.returns-then-not-meets
returns-then-not-meets c =
    let i = c.loop-index.index in (
      λ t. cc,
      λ h. sym c.if-not-meets.true ∙ c.meets.ensures.1 (λ bit low. grind (arith, common_steps, number_at i bit low, h.0 (128 * i + bit)), λ bit low. grind (arith, common_steps, number_at i bit low, h.1 (128 * i + bit))),
    )

pub returns : goal.returns
returns c = (
  λ t. (
    λ number there. grind (arith, c.loop-index.invariant.wanted number, c.requires.wanted number there),
    λ number there. grind (arith, c.loop-index.invariant.unwanted number, c.requires.unwanted number there),
  ),
  λ h. refl,
)
