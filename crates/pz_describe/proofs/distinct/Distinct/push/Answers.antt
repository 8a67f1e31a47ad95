use Rattle.std.proofs.Common.{◌≡◌, false, [], ◌∷◌, ◌++◌, map, refl, ap, ◌∙◌}
use Rattle.std.specs.String.{string_bytes, string_eq}
use Rattle.std.specs.List.{list_any}
use Rattle.std.proofs.lemmas.List.{map-append}
use Rattle.pz_base.specs.NameSet.{is_name_of}
use Rattle.pz_base.proofs.NameLemmas.{is_name_of-texts}
use Rattle.pz_describe.proofs.distinct.Distinct.push.Goals as goal

pub returns : goal.returns
returns c =
    let keys = c.self.inside.texts.keys in
    let copy = c.in_ok-copy.copy in
    let copied : string_bytes copy ≡ c.args.text.now = c.in_ok-copy.ensures.ok in
    let absent : list_any (string_eq copy) keys ≡ false =
    is_name_of-texts keys (string_bytes copy) ∙ (ap (λ t. is_name_of t (string_bytes copy)) c.self.view_is ∙ (ap (is_name_of c.args.self.now) copied ∙ c.requires)) in
    let after : c.insert.new.self.keys ≡ keys ++ copy ∷ [] = c.in_ok-insert.ensures.keys ∙ rw absent refl in
    ap (map string_bytes) after
    ∙ (map-append string_bytes keys (copy ∷ []) ∙ (ap (λ t. t ++ string_bytes copy ∷ []) c.self.view_is ∙ ap (λ t. c.args.self.now ++ t ∷ []) copied))
