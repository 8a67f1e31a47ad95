use Rattle.std.proofs.Common.{◌∷◌, [], ◌++◌, decimal, string_bytes, ap, ◌∙◌}
use Rattle.pz_json_text.proofs.LabelTexts.{in_parts}
use Rattle.pz_json_text.proofs.plain.write_new.Goals as goal

pub returns : goal.returns
returns c =
    let old = string_bytes c.args.text.now in
    let name = c.args.name.now in
    let digits = decimal c.args.number in
    c.in_ok-write_number.ensures
    ∙ ap (λ l. l ++ (digits ++ 44 ∷ [])) (c.in_ok-push_str-2.ensures.bytes ∙ ap (λ l. l ++ 58 ∷ []) c.in_ok-push_str.ensures.bytes)
    ∙ in_parts old name (58 ∷ []) digits (44 ∷ [])
