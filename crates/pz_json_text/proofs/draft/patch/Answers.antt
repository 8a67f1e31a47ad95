use Rattle.std.proofs.Common.{arith, ap, sym, ◌∙◌, refl, take}
use Rattle.std.proofs.lemmas.List.{length-take-le}
use Rattle.pz_json_text.specs.Labels.{text_at}
use Rattle.pz_json_text.proofs.Patching.{firsts_long, number_is, patched, place_inside}
use Rattle.pz_json_text.proofs.draft.patch.Goals as goal

pub slice_bounds-number_of-end : goal.slice_bounds-number_of-end
slice_bounds-number_of-end c =
    let all = c.requires.whole.0 in
    let whole = c.requires.whole.1 in
    let here = c.requires.whole.2 in
    let found = c.in-Some.found in
    let long = firsts_long c.args.width all c.args.texts.now c.args.draft.now whole c.args.cell found.0 found.1 here (c.in-Some.ensures all c.args.texts.now whole here) in
    sym (length-take-le found.1 c.deref.result.now (omega (arith, long, c.deref.ensures.len)))

pub overflow_cast-number : goal.overflow_cast-number
overflow_cast-number c =
    let all = c.requires.whole.0 in
    let whole = c.requires.whole.1 in
    let here = c.requires.whole.2 in
    let found = c.in-Some.found in
    let number = number_is c.args.width all c.args.texts.now c.args.draft.now whole c.args.cell found.0 found.1 here (c.in-Some.ensures all c.args.texts.now whole here) (take found.1 c.deref.result.now) c.args.label c.in-Some-number_of.number (ap (take found.1) c.deref.ensures.value) (sym c.number_of.ensures ∙ c.in-Some-number_of.is) in
    omega (arith, number.0)

pub overflow_add-number : goal.overflow_add-number
overflow_add-number c =
    let all = c.requires.whole.0 in
    let whole = c.requires.whole.1 in
    let here = c.requires.whole.2 in
    let found = c.in-Some.found in
    let number = number_is c.args.width all c.args.texts.now c.args.draft.now whole c.args.cell found.0 found.1 here (c.in-Some.ensures all c.args.texts.now whole here) (take found.1 c.deref.result.now) c.args.label c.in-Some-number_of.number (ap (take found.1) c.deref.ensures.value) (sym c.number_of.ensures ∙ c.in-Some-number_of.is) in
    omega (arith, number.0)

pub index_mut-requires : goal.index_mut-requires
index_mut-requires c =
    let all = c.requires.whole.0 in
    let whole = c.requires.whole.1 in
    let here = c.requires.whole.2 in
    let found = c.in-Some.found in
    omega (arith, whole.within, place_inside c.args.width all c.args.texts.now c.args.draft.now whole c.args.cell found.0 found.1 here (c.in-Some.ensures all c.args.texts.now whole here))

pub returns-clause-patched : goal.returns-clause-patched
returns-clause-patched c is all whole here =
    let found = c.in-Some.found in
    let at = c.in-Some.ensures all c.args.texts.now whole here in
    let number = number_is c.args.width all c.args.texts.now c.args.draft.now whole c.args.cell found.0 found.1 here at (take found.1 c.deref.result.now) c.args.label c.in-Some-number_of.number (ap (take found.1) c.deref.ensures.value) (sym c.number_of.ensures ∙ c.in-Some-number_of.is) in
    patched c.args.width all c.args.texts.now c.args.draft.now whole c.args.cell found.0 found.1 here at (text_at c.args.texts.now c.args.label) c.in-Some-number_of.number number.1 _ refl refl refl refl
