use Rattle.std.proofs.Common.{◌≡◌, map, drop}
use Rattle.pz_plan.specs.declared.plan.Mention.{Mention}
use Rattle.pz_plan.specs.declared.plan.Subject.TheVariants as subject
use Rattle.pz_base.specs.Lists.{added_all}
use Rattle.pz_plan.specs.Same.{says_the_same}
use Rattle.pz_plan.proofs.spelling.add_mentions.Given as goal

abbrev pub invariant-loop-object : goal.invariant-loop-object
invariant-loop-object l =
    added_all (says_the_same l.side) l.mentions.items (map {B = Mention} (λ object. record { lead = l.lead; subject = subject.Object object }) (drop l.object-index l.object-items))
    ≡ added_all (says_the_same l.side) l.fn.mentions.items (map {B = Mention} (λ object. record { lead = l.lead; subject = subject.Object object }) l.object-items)
