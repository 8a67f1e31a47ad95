use Rattle.std.proofs.Common.{refl}
use Rattle.pz_sets.proofs.SetLemmas.{by_words}
use Rattle.pz_sets.proofs.set.NumberSet.from_words.Goals as goal

pub returns : goal.returns
returns c number =
    rw (c.word_at.ensures, c.word_at-2.ensures, c.word_at-3.ensures, c.word_at-4.ensures) (by_words (λ x y. x) _ _ _ _ c.args.words.now c.args.words.now c.requires c.requires refl (λ _. refl) (λ _. refl) (λ _. refl) (λ _. refl) number)
