use Rattle.std.proofs.Common.{◌≡◌, ◌<◌, ℕ, Some, None, length, map, take, get_or, slice_set, replicate, [], arith, ap, ap₂, sym, ◌∙◌}
use Rattle.std.proofs.lemmas.List.{map_more, length-map, length-take-le, get_or-map, take-map}
use Rattle.pz_base.specs.NameSet.{number_in}
use Rattle.pz_json_text.specs.Labels.{text_at}
use Rattle.pz_json_text.proofs.Keeping.{none_before}
use Rattle.pz_json_text.proofs.LabelTexts.{none_numbered, numbers_more}
use Rattle.pz_json_text.proofs.draft.number_labels.Goals as goal

pub loop-number-init : goal.loop-number-init
loop-number-init c = c.in_ok-clear_numbers.ensures ∙ ap (λ n. replicate n None) c.len.ensures.count ∙ none_numbered c.args.texts.now

pub loop-number-preserved : goal.loop-number-preserved
loop-number-preserved c =
    let texts = c.args.texts.now in
    let firsts = c.args.firsts.now in
    let k = c.loop-number.number in
    let label : ℕ = get_or firsts k 0 in
    let said = map (text_at texts) in
    let here : k < length firsts = c.loop-number-test.true in
    let all : k < length (said firsts) = rw (length-map firsts (text_at texts)) here in
    let before : said (take k firsts) ≡ take k (said firsts) = sym (take-map (text_at texts) k firsts) in
    let text : get_or (said firsts) k [] ≡ text_at texts label = get_or-map (text_at texts) firsts k 0 [] here in
    let new : number_in (said (take k firsts)) (text_at texts label) ≡ None =
    ap₂ (λ l t. number_in l t) before (sym text) ∙ none_before (said firsts) k c.requires.distinct all in
    let count : length (said (take k firsts)) ≡ k = length-map (take k firsts) (text_at texts) ∙ length-take-le k firsts (omega (arith, here)) in
    ap₂ (λ g n. slice_set g label (Some n)) c.loop-number.invariant (sym count)
    ∙ numbers_more (said (take k firsts)) texts label c.len.ensures.distinct (c.requires.within k 0 here) new
    ∙ ap (λ l. map (number_in l) texts) (sym (map_more (text_at texts) firsts k 0 here))
