use Rattle.std.proofs.Common.{◌+◌, ◌<◌, length, Some, drop, refl, ap, sym, ◌∙◌, arith}
use Rattle.pz_plan.specs.Deciding.{both_or_none, decided_terms}
use Rattle.pz_plan.proofs.Joining.{after, after-some, after-nothing, after-all, terms-at}
use Rattle.pz_plan.proofs.deciding.decided_terms.Goals as goal

pub loop-mention-preserved : goal.loop-mention-preserved
loop-mention-preserved c =
    let choices = c.args.choices.now in
    let mentions = c.args.mentions.now in
    let spot = c.args.spot in
    let i = c.loop-mention.mention-index in
    let out = c.loop-mention.terms.items in
    let more = decided_terms choices spot (drop (i + 1) mentions) in
    let in_range : i < length mentions = omega arith in
    ap (λ l. after l more) c.in_ok-push.ensures.items
    ∙ after-some out c.in-Some.term _ more (decided_terms choices spot mentions) (sym c.decided_term.ensures ∙ c.in-Some.is)
    (sym (terms-at choices spot out mentions i _ in_range) ∙ c.loop-mention.invariant)

pub loop-mention-init : goal.loop-mention-init
loop-mention-init c = rw c.new-terms.ensures.items (after-nothing (decided_terms c.args.choices.now c.args.spot c.args.mentions.now))

pub returns-in_default : goal.returns-in_default
returns-in_default c =
    let choices = c.args.choices.now in
    let mentions = c.args.mentions.now in
    let spot = c.args.spot in
    let i = c.loop-mention.mention-index in
    let out = c.loop-mention.terms.items in
    let more = decided_terms choices spot (drop (i + 1) mentions) in
    let in_range : i < length mentions = omega arith in
    sym (ap (λ o. after out (both_or_none o more)) (sym c.decided_term.ensures ∙ c.in_default.is)) ∙ (sym (terms-at choices spot out mentions i _ in_range) ∙ c.loop-mention.invariant)

pub returns : goal.returns
unfolding decided_terms
returns c =
    let i = c.loop-mention.mention-index in
    ap Some c.new.ensures ∙ after-all (decided_terms c.args.choices.now c.args.spot) refl c.loop-mention.terms.items c.args.mentions.now i _ c.loop-mention-test.false c.loop-mention.invariant
