use Rattle.std.proofs.Common.{◌<◌, ◌+◌, length, drop, ap, sym, ◌∙◌, arith, get_or, None}
use Rattle.std.specs.List.{flat_map}
use Rattle.std.proofs.lemmas.List.{at_drop_more, drop_all}
use Rattle.pz_grammar.specs.declared.rule.Phrase.{Phrase}
use Rattle.pz_base.specs.Lists.{added_all, firsts}
use Rattle.pz_plan.specs.Same.{says_the_same}
use Rattle.pz_plan.specs.Spelling.{mentions_at, spelled_out}
use Rattle.pz_plan.proofs.Mentions.{mentions-more, mentions-start}
use Rattle.pz_plan.proofs.spelling.spelled_out.Goals as goal

pub loop-phrase-preserved : goal.loop-phrase-preserved
loop-phrase-preserved c =
    let phrases = c.items-phrase-items.result.now in
    let said = mentions_at c.args.table.now in
    let added = added_all (says_the_same c.args.side) in
    let i = c.loop-phrase.phrase-index in
    let before = c.loop-phrase.mentions.items in
    let none : Phrase = record { lead = None; name = None } in
    let rest = flat_map said (drop (i + 1) phrases) in
    let in_range : i < length phrases = omega arith in
    ap (λ l. added l rest) c.in_ok-add_phrase.ensures
    ∙ (sym (mentions-more c.args.side before (said (get_or phrases i none)) rest) ∙ (sym (at_drop_more (λ l. added before (flat_map said l)) phrases i none in_range) ∙ c.loop-phrase.invariant))

pub loop-phrase-init : goal.loop-phrase-init
loop-phrase-init c = rw c.new-mentions.ensures.items (mentions-start c.args.side (flat_map (mentions_at c.args.table.now) c.items-phrase-items.result.now))

pub returns : goal.returns
unfolding spelled_out
returns c =
    let phrases = c.items-phrase-items.result.now in
    let said = mentions_at c.args.table.now in
    let same = says_the_same c.args.side in
    let over = drop_all c.loop-phrase.phrase-index phrases c.loop-phrase-test.false in
    c.new.ensures
    ∙ (ap (λ l. added_all same c.loop-phrase.mentions.items (flat_map said l)) (sym over) ∙ (c.loop-phrase.invariant ∙ ap (λ ps. firsts same (flat_map said ps)) c.items-phrase-items.ensures))
