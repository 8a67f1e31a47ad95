use Rattle.std.proofs.Common.{◌≡◌, ◌<◌, ◌+◌, length, refl, ap, sym, ◌∙◌, drop, arith}
use Rattle.std.specs.Prelude.{option_and_then}
use Rattle.std.proofs.lemmas.List.{at_drop_more, drop_all}
use Rattle.pz_game.specs.declared.denotation.Denotation.{Denotation}
use Rattle.pz_names.specs.Denotation.{with_mentions, members_of_parts, known_at}
use Rattle.pz_names.proofs.MemberLemmas.{gathered-step}
use Rattle.pz_names.proofs.denotation.gather.Goals as goal

pub loop-part-preserved : goal.loop-part-preserved
loop-part-preserved c =
    let parts = c.args.parts.now in
    let i = c.loop-part.part-index in
    let known = known_at c.args.known.now in
    let mentions = c.loop-part.mentions.items in
    let d = c.in-Some.denotation.now in
    let added : c.add_mentions.new.mentions.items ≡ with_mentions mentions d.members = c.in_ok-add_mentions.ensures.mentions ∙ ap (with_mentions mentions) c.items.ensures in
    record {
      gathered =
          ap (λ m. members_of_parts known m (drop (i + 1) parts)) added
          ∙ (gathered-step known mentions parts i d c.loop-part-test.true (sym c.in-Some.ensures) ∙ c.loop-part.invariant.gathered);
      marked = c.in_ok-add_mentions.ensures.marked;
    }

pub loop-part-init : goal.loop-part-init
loop-part-init c = record { gathered = refl; marked = c.requires }

pub returns-in_default : goal.returns-in_default
returns-in_default c =
    let parts = c.args.parts.now in
    let i = c.loop-part.part-index in
    let known = known_at c.args.known.now in
    let mentions = c.loop-part.mentions.items in
    let in_range : i < length parts = omega arith in
    sym c.loop-part.invariant.gathered
    ∙ (at_drop_more (members_of_parts known mentions) parts i 0 in_range
    ∙ ap (option_and_then (λ (d : Denotation). members_of_parts known (with_mentions mentions d.members) (drop (i + 1) parts))) (sym c.in_default.ensures))

pub returns : goal.returns
returns c =
    sym c.loop-part.invariant.gathered
    ∙ ap (members_of_parts (known_at c.args.known.now) c.loop-part.mentions.items) (drop_all c.loop-part.part-index c.args.parts.now c.loop-part-test.false)
