use Rattle.std.proofs.Common.{◌<◌, ◌+◌, length, drop, refl, ap, sym, ◌∙◌, arith}
use Rattle.std.proofs.lemmas.List.{at_drop_more, drop_all}
use Rattle.pz_names.specs.Denotation.{with_mentions}
use Rattle.pz_names.proofs.denotation.add_mentions.Goals as goal

pub loop-number-init : goal.loop-number-init
loop-number-init c = record { mentions = refl; marked = c.requires }

pub loop-number-preserved : goal.loop-number-preserved
loop-number-preserved c =
    let more = c.args.more.now in
    let i = c.loop-number.number-index in
    let in_range : i < length more = omega arith in
    record {
      mentions =
          ap (λ m. with_mentions m (drop (i + 1) more)) c.in_ok-add_mention.ensures.mentions
          ∙ (sym (at_drop_more (with_mentions c.loop-number.mentions.items) more i 0 in_range) ∙ c.loop-number.invariant.mentions);
      marked = c.in_ok-add_mention.ensures.marked;
    }

pub returns-clause-mentions : goal.returns-clause-mentions
returns-clause-mentions c =
    ap (with_mentions c.loop-number.mentions.items) (sym (drop_all c.loop-number.number-index c.args.more.now c.loop-number-test.false)) ∙ c.loop-number.invariant.mentions
