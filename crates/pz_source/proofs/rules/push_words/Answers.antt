use Rattle.std.proofs.Common.{◌≡◌, true, sym, ◌∙◌, arith, ap, length}
use Rattle.pz_text.specs.Comment.{ends_message}
use Rattle.pz_source.proofs.RuleLemmas.{ends_message-long}
use Rattle.pz_source.proofs.rules.push_words.Goals as goal

pub push_message-requires : goal.push_message-requires
push_message-requires c =
    let ends : ends_message c.loop-c.cursor.word.items c.in-Some.c.now ≡ true = sym c.ends_message.ensures ∙ c.if-ends_message.true in
    omega (arith, ap length c.as_slice.ensures.value, ends_message-long c.loop-c.cursor.word.items c.in-Some.c.now ends)
