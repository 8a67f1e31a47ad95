use Rattle.std.proofs.Common.{◌≡◌, ap, ◌∙◌, map, rules}
use Rattle.pz_json_text.specs.CellTexts.{text_of_names}
use Rattle.pz_describe.proofs.Joining.{joins}
use Rattle.pz_describe.proofs.cells.text_of.Goals as goal

pub returns : goal.returns
returns c =
    let names : map (λ word. word.now) c.in_ok-words.words.items ≡ c.args.names.now = search rules in
    rw (← names, ← joins c.in_ok-words.words.items) (search rules)
