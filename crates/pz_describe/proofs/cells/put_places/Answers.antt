use Rattle.std.proofs.Common.{◌≡◌, ◌++◌, ◌∷◌, ◌∙◌, [], ap, flat_map, get_or, map, subst}
use Rattle.std.proofs.lemmas.List.{append_assoc}
use Rattle.indexmap.proofs.MapLemmas.{OnOk-map}
use Rattle.json.specs.Token.{begin_array, end_array}
use Rattle.pz_describe.specs.Recordings.{place_in}
use Rattle.pz_describe.specs.Values.{numeral}
use Rattle.pz_describe.proofs.CellPlaces.{numbers_at}
use Rattle.pz_describe.proofs.cells.put_places.Goals as goal

pub returns : goal.returns
returns c =
    let numbers = c.in_ok-numbers.numbers.items in
    let places = c.args.places.now in
    let known = c.args.known.now in
    let texts = c.args.texts.now in
    let page = c.args.page.now in
    let tokens = flat_map numeral (map (place_in known) (map (λ place. get_or texts place []) places)) in
    let told : flat_map (λ place. numeral (get_or numbers place 0)) places ≡ tokens =
    ap (λ list. flat_map (λ place. numeral (get_or list place 0)) places) c.in_ok-numbers.ensures ∙ numbers_at known texts places c.requires in
    let put : c.put_numbers.new.page ≡ c.begin_array.new.self ++ tokens =
    subst (λ list. c.put_numbers.new.page ≡ c.begin_array.new.self ++ flat_map (λ place. numeral (get_or list place 0)) places) c.deref.ensures.value c.in_ok-put_numbers.ensures
    ∙ ap (λ list. c.begin_array.new.self ++ list) told in
    OnOk-map c.end_array.result _ _
    (λ ended.
    ended
    ∙ ap (λ list. list ++ end_array ∷ []) (put ∙ ap (λ list. list ++ tokens) c.in_ok-begin_array.ensures)
    ∙ append_assoc (page ++ begin_array ∷ []) tokens (end_array ∷ [])
    ∙ append_assoc page (begin_array ∷ []) (tokens ++ end_array ∷ []))
    c.end_array.ensures
