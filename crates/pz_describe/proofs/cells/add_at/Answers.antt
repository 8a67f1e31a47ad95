use Rattle.std.proofs.Common.{◌≡◌, [], ap, arith, get_or, length, slice_set, subst, sym, true, ◌<◌, ◌∙◌}
use Rattle.std.proofs.lemmas.List.{get_or_default}
use Rattle.pz_json_text.specs.CellTexts.{with_cell}
use Rattle.pz_describe.specs.Recordings.{AreKnown}
use Rattle.pz_describe.proofs.DistinctTexts.{nothing_added, one_noted}
use Rattle.pz_describe.proofs.cells.add_at.Goals as goal

pub returns-in_ok-add-clause-known : goal.returns-in_ok-add-clause-known
returns-in_ok-add-clause-known c =
    let known = c.args.distinct.now in
    let texts = c.args.texts.now in
    let place = c.args.place in
    let text : c.as_str.result.now ≡ get_or texts place [] = c.as_str.ensures ∙ (c.index-texts-place.is ∙ get_or_default texts place c.index-texts-place.result [] c.requires.within) in
    let added : with_cell known (get_or texts place []) ≡ c.add.new.self = sym (c.in_ok-add.ensures ∙ ap (with_cell known) text) in
    let within : place < length c.args.noted.now = omega (arith, c.requires.count, c.requires.within) in
    subst (λ more. AreKnown (slice_set c.args.noted.now place true) more texts) added (one_noted c.args.noted.now known texts place within c.requires.known)

pub returns-else-not-noted-place-clause-added : goal.returns-else-not-noted-place-clause-added
returns-else-not-noted-place-clause-added c = sym (nothing_added c.args.distinct.now (get_or c.args.texts.now c.args.place []) (c.requires.known c.args.place c.if-not-noted-place.false))
