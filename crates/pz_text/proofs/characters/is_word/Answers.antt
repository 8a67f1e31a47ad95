use Rattle.std.proofs.Common.{◌≡◌, [], drop, ◌∙◌, arith, drop_of_length-le}
use Rattle.pz_text.proofs.TextLemmas.{is_word-nil}
use Rattle.pz_text.proofs.characters.is_word.Goals as goal

pub returns : goal.returns
returns c =
    let end : drop c.loop-b.b-index c.args.word.now ≡ [] = drop_of_length-le c.args.word.now (omega arith) in
    c.is_empty.ensures ∙ (is_word-nil c.loop-b.rest.now ∙ rw end at c.loop-b.invariant)
