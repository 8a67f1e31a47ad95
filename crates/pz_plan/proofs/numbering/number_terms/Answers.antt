use Rattle.std.proofs.Common.{◌<◌, ◌+◌, ◌++◌, [], ◌∷◌, length, drop, refl, ap, sym, ◌∙◌, arith}
use Rattle.std.proofs.lemmas.List.{append-nil, drop_all}
use Rattle.pz_plan.specs.Numbering.{choices_at, terms_of}
use Rattle.pz_plan.proofs.Numbered.{terms-more, choices-more, asked-by}
use Rattle.pz_plan.proofs.numbering.number_terms.Goals as goal

pub loop-mention-preserved : goal.loop-mention-preserved
loop-mention-preserved c =
    let spot = c.args.spot in
    let mentions = c.args.mentions.now in
    let i = c.loop-mention.mention-index in
    let out = c.loop-mention.terms.items in
    let before = c.loop-mention.choices.items in
    let after = c.number_term.new.choices.items in
    let in_range : i < length mentions = omega arith in
    let added = c.in_ok-number_term.ensures.choices in
    record {
      terms = ap (λ l. l ++ terms_of (length after) (drop (i + 1) mentions)) (c.in_ok-push.ensures.items ∙ ap (λ t. out ++ t ∷ []) c.in_ok-number_term.ensures.term)
          ∙ terms-more out (length before) (length after) mentions i _ _ in_range (asked-by spot before after _ added) c.loop-mention.invariant.terms;
      choices = ap (λ l. l ++ choices_at spot (drop (i + 1) mentions)) added ∙ choices-more spot before mentions i _ _ in_range c.loop-mention.invariant.choices;
    }

pub loop-mention-init : goal.loop-mention-init
loop-mention-init c = rw c.new-terms.ensures.items (record { terms = refl; choices = refl })

pub returns-clause-terms : goal.returns-clause-terms
unfolding terms_of
returns-clause-terms c =
    let out = c.loop-mention.terms.items in
    let over = drop_all c.loop-mention.mention-index c.args.mentions.now c.loop-mention-test.false in
    c.new.ensures ∙ (sym (append-nil out) ∙ (ap (λ l. out ++ terms_of (length c.loop-mention.choices.items) l) (sym over) ∙ c.loop-mention.invariant.terms))

pub returns-clause-choices : goal.returns-clause-choices
unfolding choices_at
returns-clause-choices c =
    let before = c.loop-mention.choices.items in
    let over = drop_all c.loop-mention.mention-index c.args.mentions.now c.loop-mention-test.false in
    sym (append-nil before) ∙ (ap (λ l. before ++ choices_at c.args.spot l) (sym over) ∙ c.loop-mention.invariant.choices)
