use Rattle.std.proofs.Common.{ℕ, ◌<◌, ◌+◌, length, map, drop, ap, sym, ◌∙◌, arith}
use Rattle.std.proofs.lemmas.List.{at_drop_more}
use Rattle.pz_plan.specs.declared.plan.Mention.{Mention}
use Rattle.pz_plan.specs.declared.plan.Subject.TheVariants as subject
use Rattle.pz_base.specs.Lists.{added_all}
use Rattle.pz_plan.specs.Same.{says_the_same}
use Rattle.pz_plan.proofs.spelling.add_mentions.Goals as goal

pub loop-object-preserved : goal.loop-object-preserved
loop-object-preserved c =
    let objects = c.items-object-items.result.now in
    let added = added_all (says_the_same c.args.side) in
    let said : ℕ → Mention = λ object. record { lead = c.args.lead; subject = subject.Object object } in
    let i = c.loop-object.object-index in
    let in_range : i < length objects = omega arith in
    ap (λ m. added m (map said (drop (i + 1) objects))) c.in_ok-add_mention.ensures
    ∙ (sym (at_drop_more (λ l. added c.loop-object.mentions.items (map said l)) objects i 0 in_range) ∙ c.loop-object.invariant)
