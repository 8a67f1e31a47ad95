use Rattle.std.proofs.Common.{◌≡◌, ◌++◌, ◌+◌, ◌%◌, List, ℕ, take, ap, arith, sym, ◌∙◌}
use Rattle.std.proofs.lemmas.List.{append-nil}
use Rattle.json.specs.Print.{escape}
use Rattle.pz_json_text.proofs.Escaping.{two_written, line_feed}
use Rattle.pz_json_text.proofs.Walking.{in_line, unended, ended}
use Rattle.pz_json_text.proofs.escaped.end_line.Goals as goal

pub returns-then-column-width-clause-written : goal.returns-then-column-width-clause-written
returns-then-column-width-clause-written c count at =
    let text = take c.args.end c.args.json.now in
    sym (append-nil text) ∙ ap (λ (end : List ℕ). text ++ escape end) (sym (unended count c.args.width c.args.column at c.if-column-width.true))

pub returns-then-column-width-clause-column : goal.returns-then-column-width-clause-column
returns-then-column-width-clause-column c count at =
    let e : (count + 1) % c.args.width ≡ count % c.args.width + 1 = (in_line count c.args.width (omega (arith, at, c.if-column-width.true))).0 in
    omega (arith, at, e)

pub returns-clause-written : goal.returns-clause-written
returns-clause-written c count at =
    let text = take c.args.end c.args.json.now in
    two_written c.args.json.now c.args.end 92 110 (omega arith)
    ∙ ap (λ (l : List ℕ). text ++ l) (sym line_feed)
    ∙ ap (λ (end : List ℕ). text ++ escape end) (sym (ended count c.args.width c.args.column at c.requires.column (omega arith)))
