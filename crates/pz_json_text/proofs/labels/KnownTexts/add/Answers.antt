use Rattle.std.proofs.Common.{◌≡◌, false, [], ◌∷◌, ◌++◌, map, refl, ap, ap₂, sym, ◌∙◌, subst}
use Rattle.std.specs.String.{string_bytes, string_eq}
use Rattle.std.specs.List.{list_any}
use Rattle.std.proofs.lemmas.List.{map-append}
use Rattle.pz_base.specs.NameSet.{is_name_of}
use Rattle.pz_base.proofs.NameLemmas.{is_name_of-texts}
use Rattle.pz_json_text.specs.Labels.{AreDistinct}
use Rattle.pz_json_text.proofs.LabelTexts.{distinct_more}
use Rattle.pz_json_text.proofs.labels.KnownTexts.add.Goals as goal

added : (c : goal.After-push_reserved) → map string_bytes c.insert.new.self.keys ≡ c.args.self.now ++ string_bytes c.args.text ∷ []
added c =
    let keys = c.self.inside.texts.keys in
    let text = c.args.text in
    let absent : list_any (string_eq text) keys ≡ false =
    is_name_of-texts keys (string_bytes text) ∙ (ap (λ t. is_name_of t (string_bytes text)) c.self.view_is ∙ c.requires) in
    let after : c.insert.new.self.keys ≡ keys ++ text ∷ [] = c.in_ok-insert.ensures.keys ∙ rw absent refl in
    ap (map string_bytes) after ∙ (map-append string_bytes keys (text ∷ []) ∙ ap (λ t. t ++ string_bytes text ∷ []) c.self.view_is)

pub invariant_of-self-2 : goal.invariant_of-self-2
invariant_of-self-2 c =
    let before : c.reserve.new.self.items ≡ c.args.self.now = c.reserve.ensures.items ∙ (c.self.invariant.1 ∙ c.self.view_is) in
    let text : c.in_ok-quoted.quoted ≡ string_bytes c.args.text = c.in_ok-quoted.ensures ∙ c.as_str.ensures.value in (
      rw (added c) (distinct_more c.args.self.now (string_bytes c.args.text) (subst AreDistinct c.self.view_is c.self.invariant.0) c.requires),
      c.push_reserved.ensures.items ∙ ap₂ (λ l t. l ++ t ∷ []) before text ∙ sym (added c),
    )

pub returns-clause-added : goal.returns-clause-added
returns-clause-added c = added c
