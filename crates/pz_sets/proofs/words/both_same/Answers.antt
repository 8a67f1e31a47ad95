use Rattle.std.proofs.Common.{◌+◌, ◌*◌, arith, sym, ◌∙◌}
use Rattle.std.proofs.lemmas.Grind.{common_steps}
use Rattle.pz_sets.proofs.WordsLemmas.{number_at}
use Rattle.pz_sets.proofs.words.both_same.Goals as goal

pub returns-then-not-both_same : goal.returns-then-not-both_same
returns-then-not-both_same c =
    let i = c.loop-index.index in (
      λ t. cc,
      λ h. sym c.if-not-both_same.true ∙ c.both_same.ensures.1 (λ bit low. grind (arith, common_steps, number_at i bit low, h.0 (128 * i + bit)), λ bit low. grind (arith, common_steps, number_at i bit low, h.1 (128 * i + bit))),
    )
