use Rattle.std.proofs.Common.{◌≡◌, ◌++◌, ◌∙◌, OnOk, [], ap, get_or, map, subst, sym, rules}
use Rattle.pz_json_text.specs.CellTexts.{text_of_names}
use Rattle.pz_describe.specs.Recordings.{cells_tokens}
use Rattle.pz_describe.proofs.CellPlaces.{texts_at}
use Rattle.pz_describe.proofs.cells.put_level.Goals as goal

pub returns : goal.returns
returns c =
    let sets = c.parts.result.0.now in
    let places = c.parts.result.1.now in
    let texts : map (λ place. get_or c.in_ok-texts.texts.items place []) places ≡ map text_of_names c.args.level.now =
    ap (λ list. map (λ place. get_or list place []) places) c.in_ok-texts.ensures ∙ (texts_at sets places ∙ ap (map text_of_names) (sym c.parts.ensures.cells)) in
    subst (λ all. OnOk c.put_cells.result (c.put_cells.new.page ≡ c.args.page.now ++ cells_tokens all)) texts (search rules)
