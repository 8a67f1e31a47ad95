use Rattle.std.proofs.Common.{◌≡◌, ◌≤◌, length, map, take, ap, sym, ◌∙◌, arith}
use Rattle.std.proofs.lemmas.Bool.Decides.{Decides-eqb}
use Rattle.std.proofs.lemmas.List.{length-take-le}
use Rattle.std.proofs.lemmas.Slice.Eq.{slice_eq-Decides}
use Rattle.pz_json_text.specs.declared.written.Written.{Written}
use Rattle.pz_json_text.specs.Labels.{text_at}
use Rattle.pz_json_text.proofs.Drafts.{mark_is, rest_json, rest_firsts, rest_ends, rest_whole}
use Rattle.pz_json_text.proofs.draft.finish_at.Goals as goal

pub slice_bounds-eq-end : goal.slice_bounds-eq-end
slice_bounds-eq-end c =
    let few : c.index-mark.result.now.known ≤ length c.deref.result.now = omega (arith, ap length c.deref.ensures.value, rest_firsts c.args.width c.requires.last.0 (map (text_at c.args.texts.now) c.args.labels.now) c.args.texts.now c.args.last.now c.requires.last.1 c.args.count c.requires.last.2 c.requires.count c.index-mark.result.now c.index-mark.ensures) in
    sym (length-take-le c.index-mark.result.now.known c.deref.result.now few)

pub take_rest-requires-clause-mark : goal.take_rest-requires-clause-mark
take_rest-requires-clause-mark c = rest_json c.args.width c.requires.last.0 (map (text_at c.args.texts.now) c.args.labels.now) c.args.texts.now c.args.last.now c.requires.last.1 c.args.count c.requires.last.2 c.requires.count c.index-mark.result.now c.index-mark.ensures

pub take_rest-requires-clause-firsts : goal.take_rest-requires-clause-firsts
take_rest-requires-clause-firsts c = rest_firsts c.args.width c.requires.last.0 (map (text_at c.args.texts.now) c.args.labels.now) c.args.texts.now c.args.last.now c.requires.last.1 c.args.count c.requires.last.2 c.requires.count c.index-mark.result.now c.index-mark.ensures

pub take_rest-requires-clause-ends : goal.take_rest-requires-clause-ends
take_rest-requires-clause-ends c = rest_ends c.args.width c.requires.last.0 (map (text_at c.args.texts.now) c.args.labels.now) c.args.texts.now c.args.last.now c.requires.last.1 c.args.count c.requires.last.2 c.requires.count c.index-mark.result.now c.index-mark.ensures

pub returns-then-eq-clause-whole : goal.returns-then-eq-clause-whole
returns-then-eq-clause-whole c is =
    let mark = c.index-mark.result.now in
    let same : c.as_slice.result.now ≡ take mark.known c.deref.result.now = (slice_eq-Decides Decides-eqb c.as_slice.result.now (take mark.known c.deref.result.now) c.eq.result c.eq.ensures).0 c.if-eq.true in
    let cells : mark.cells ≡ _ = ap (λ (w : Written). w.cells) (mark_is c.args.width c.requires.last.0 (map (text_at c.args.texts.now) c.args.labels.now) c.args.texts.now c.args.last.now c.requires.last.1 c.args.count c.requires.last.2 c.requires.count c.index-mark.result.now c.index-mark.ensures) in
    rest_whole c.args.width c.requires.last.0 (map (text_at c.args.texts.now) c.args.labels.now) c.args.texts.now c.args.last.now c.requires.last.1 c.args.count c.requires.last.2 c.requires.count c.index-mark.result.now c.index-mark.ensures
    c.write_cells.new.draft c.write_cells.new.numbers.items c.in_ok-write_cells.ensures.begun (c.in_ok-write_cells.ensures.to ∙ cells) (sym c.as_slice.ensures.value ∙ same ∙ ap (take mark.known) c.deref.ensures.value)
    c.take_rest.new.draft c.in_ok-take_rest.ensures.room c.in_ok-take_rest.ensures.json c.in_ok-take_rest.ensures.firsts c.in_ok-take_rest.ensures.marks
