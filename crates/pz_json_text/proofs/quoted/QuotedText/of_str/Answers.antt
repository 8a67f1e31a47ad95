use Rattle.std.proofs.Common.{[], ◌∷◌, ◌++◌, ap, ◌∙◌}
use Rattle.json.specs.Token.{string}
use Rattle.pz_json_text.proofs.Quoting.{kept_quoted}
use Rattle.pz_json_text.proofs.quoted.QuotedText.of_str.Goals as goal

pub invariant_of-result : goal.invariant_of-result
invariant_of-result c =
    let empty = c.string.ensures.room.0 ∙ c.new-writer.ensures.before ∙ c.in_ok-room.ensures.items in
    let is = c.in_ok-string.ensures.ok ∙ ap (λ ts. ts ++ string c.args.text.now ∷ []) c.new-writer.ensures.tokens in
    (kept_quoted c.args.text.now c.string.new.self.before c.into_inner.result.items c.string.new.self.tokens c.into_inner.ensures.items empty is c.into_inner.ensures.reads_back).0

pub returns : goal.returns
returns c =
    let empty = c.string.ensures.room.0 ∙ c.new-writer.ensures.before ∙ c.in_ok-room.ensures.items in
    let is = c.in_ok-string.ensures.ok ∙ ap (λ ts. ts ++ string c.args.text.now ∷ []) c.new-writer.ensures.tokens in
    (kept_quoted c.args.text.now c.string.new.self.before c.into_inner.result.items c.string.new.self.tokens c.into_inner.ensures.items empty is c.into_inner.ensures.reads_back).1
