use Rattle.std.proofs.Common.{ℕ, List, map, ap, ◌∙◌}
use Rattle.pz_base.specs.NameSet.{number_in}
use Rattle.pz_json_text.specs.Labels.{text_at}
use Rattle.pz_json_text.proofs.Drafts.{front_json, front_firsts, front_distinct, front_begun}
use Rattle.pz_json_text.proofs.draft.write_after.Goals as goal

pub take_front-requires-clause-json : goal.take_front-requires-clause-json
take_front-requires-clause-json c =
    front_json c.args.width c.requires.last.0 (map (text_at c.args.texts.now) c.args.labels.now) c.args.texts.now c.args.last.now c.requires.last.1 c.args.changed.first c.args.changed.end c.requires.last.2 c.requires.some c.index.result.now c.index.ensures

pub take_front-requires-clause-firsts : goal.take_front-requires-clause-firsts
take_front-requires-clause-firsts c =
    front_firsts c.args.width c.requires.last.0 (map (text_at c.args.texts.now) c.args.labels.now) c.args.texts.now c.args.last.now c.requires.last.1 c.args.changed.first c.args.changed.end c.requires.last.2 c.requires.some c.index.result.now c.index.ensures

pub number_labels-requires-clause-distinct : goal.number_labels-requires-clause-distinct
number_labels-requires-clause-distinct c =
    front_distinct c.args.width c.requires.last.0 (map (text_at c.args.texts.now) c.args.labels.now) c.args.texts.now c.args.last.now c.requires.last.1 c.args.changed.first c.args.changed.end c.requires.last.2 c.requires.some c.index.result.now c.index.ensures
    c.as_slice.result.now (c.as_slice.ensures.value ∙ c.in_ok-take_front.ensures.firsts)

pub finish-requires-clause-begun : goal.finish-requires-clause-begun
finish-requires-clause-begun c =
    front_begun c.args.width c.requires.last.0 (map (text_at c.args.texts.now) c.args.labels.now) c.args.texts.now c.args.last.now c.requires.last.1 c.args.changed.first c.args.changed.end c.requires.last.2 c.requires.some c.index.result.now c.index.ensures
    _ c.number_labels.new.numbers.items c.requires.wide c.in_ok-take_front.ensures.at c.in_ok-take_front.ensures.room c.in_ok-take_front.ensures.json c.in_ok-take_front.ensures.firsts c.in_ok-take_front.ensures.marks
    (c.in_ok-number_labels.ensures ∙ ap (λ (l : List ℕ). map (number_in (map (text_at c.args.texts.now) l)) c.args.texts.now) c.as_slice.ensures.value)
