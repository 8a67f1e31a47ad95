use Rattle.std.proofs.Common.{◌++◌, List, ℕ, string_bytes, ap, sym, ◌∙◌}
use Rattle.std.proofs.lemmas.List.{append-nil}
use Rattle.pz_json_text.proofs.Walking.{unended}
use Rattle.pz_json_text.proofs.plain.end_line.Goals as goal

pub returns-then-column-width-clause-ended : goal.returns-then-column-width-clause-ended
returns-then-column-width-clause-ended c count at =
    let text = string_bytes c.args.text.now in
    sym (append-nil text) ∙ ap (λ (end : List ℕ). text ++ end) (sym (unended count c.args.width c.args.column at c.if-column-width.true))
