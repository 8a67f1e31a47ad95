use Rattle.std.proofs.Common.{◌≡◌, false, [], ◌∷◌, ◌++◌, map, refl, ap, ◌∙◌}
use Rattle.std.specs.String.{string_bytes, string_eq}
use Rattle.std.specs.List.{list_any}
use Rattle.std.proofs.lemmas.List.{map-append}
use Rattle.pz_base.specs.NameSet.{is_name_of}
use Rattle.pz_base.proofs.NameLemmas.{is_name_of-texts}
use Rattle.pz_base.proofs.name_set.NameSet.add.Goals as goal

pub returns-clause-added : goal.returns-clause-added
returns-clause-added c =
    let keys = c.self.inside.texts.keys in
    let text = c.in_ok-text.text in
    let bytes : string_bytes text ≡ c.args.name.now = c.in_ok-text.ensures.ok in
    let absent : list_any (string_eq text) keys ≡ false =
    is_name_of-texts keys (string_bytes text) ∙ (ap (λ t. is_name_of t (string_bytes text)) c.self.view_is ∙ (ap (is_name_of c.args.self.now) bytes ∙ c.requires)) in
    let after : c.insert.new.self.keys ≡ keys ++ text ∷ [] = c.in_ok-insert.ensures.keys ∙ rw absent refl in
    ap (map string_bytes) after ∙ (map-append string_bytes keys (text ∷ []) ∙ (ap (λ b. map string_bytes keys ++ b ∷ []) bytes ∙ ap (λ t. t ++ c.args.name.now ∷ []) c.self.view_is))
