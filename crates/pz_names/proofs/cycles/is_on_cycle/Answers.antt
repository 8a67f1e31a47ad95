use Rattle.std.proofs.Common.{◌≡◌, ◌+◌, [], length, ap, sym, subst, ◌∙◌, ◌==◌, arith}
use Rattle.std.specs.List.{list_any}
use Rattle.pz_names.specs.Meaning.{parts_at}
use Rattle.pz_names.specs.Denotation.{with_mentions}
use Rattle.pz_names.proofs.SearchLemmas.{IsSearch, search-start, search-step, search-end}
use Rattle.pz_names.proofs.cycles.is_on_cycle.Goals as goal

pub loop-place-init : goal.loop-place-init
loop-place-init c =
    let meanings = c.args.meanings.now in
    let number = c.args.number in
    let found : c.add_mentions.new.mentions.items ≡ with_mentions [] (parts_at meanings number) =
    c.in_ok-add_mentions.ensures.mentions ∙ (ap (λ f. with_mentions f c.parts_at.result.now) c.new-found.ensures.items ∙ ap (with_mentions []) c.parts_at.ensures) in
    record {
      marked = c.in_ok-add_mentions.ensures.marked;
      search = subst (λ f. IsSearch meanings number f 0) (sym found) (search-start meanings c.requires number);
    }

pub loop-place-preserved : goal.loop-place-preserved
loop-place-preserved c = record {
  marked = c.in_ok-look.ensures.marked;
  search =
      subst (λ f. IsSearch c.args.meanings.now c.args.number f (c.loop-place.place + 1)) (sym c.in_ok-look.ensures.found)
      (search-step c.args.meanings.now c.requires c.args.number c.loop-place.found.items c.loop-place.place c.loop-place.invariant.search);
}

pub returns : goal.returns
returns c =
    let meanings = c.args.meanings.now in
    let number = c.args.number in
    let items = c.loop-place.found.items in
    let at_end : c.loop-place.place ≡ length meanings = omega (arith, c.loop-place-test.false, c.loop-place.auto.place-end) in
    c.is_mentioned.ensures ∙ (ap (λ f. list_any (λ o. o == number) f) c.as_slice.ensures.value
    ∙ search-end meanings c.requires number items (subst (IsSearch meanings number items) at_end c.loop-place.invariant.search))
