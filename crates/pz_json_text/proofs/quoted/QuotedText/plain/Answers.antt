use Rattle.std.proofs.Common.{◌∷◌, ap, ◌∙◌}
use Rattle.std.proofs.lemmas.Result.{IfOk-weaker}
use Rattle.json.specs.Reads.{token_of}
use Rattle.json.specs.Lex.{tokens}
use Rattle.json.specs.Token.{string}
use Rattle.pz_json_text.proofs.Quoting.{first_says}
use Rattle.pz_json_text.proofs.quoted.QuotedText.plain.Goals as goal

pub returns-in-Some-String : goal.returns-in-Some-String
returns-in-Some-String c =
    let json = c.self.inside.json.items in
    let there = c.in-Ok.ensures.cases.0 ∙ c.as_slice.ensures.value in
    let says = first_says json c.args.self.now c.in_ok-reader.reader _ (string c.in-Some-String.text.now) c.self.view_is (c.in_ok-reader.ensures.ok ∙ ap tokens there) (c.in-Some-String.ensures.value ∙ ap (λ token. token_of token ∷ c.next.new.self) c.in-Some-String.field-0-is) in
    IfOk-weaker c.from_str.result _ _ (λ text is. is ∙ says) c.from_str.ensures.ok
