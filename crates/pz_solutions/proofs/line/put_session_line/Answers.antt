use Rattle.std.proofs.Common.{List, ℕ, ◌++◌, codes, decimal, ap, ◌∙◌}
use Rattle.pz_solutions.specs.Line.{solution_text}
use Rattle.pz_solutions.proofs.Texts.{session_in_fields}
use Rattle.pz_solutions.proofs.line.put_session_line.Goals as goal

pub returns : goal.returns
returns c =
    let one = c.in_ok-put_number.ensures in
    let two = c.in_ok-extend_from_slice.ensures.items ∙ ap (λ (l : List ℕ). l ++ codes ",\"solution\":") one in
    let three = c.in_ok-put_solution.ensures ∙ ap (λ (l : List ℕ). l ++ solution_text c.args.solution.now) two in
    c.in_ok-extend_from_slice-2.ensures.items ∙ ap (λ (l : List ℕ). l ++ codes "}\n") three
    ∙ session_in_fields c.args.lines.now.items (codes "{\"session\":") (decimal c.args.number) (codes ",\"solution\":") (solution_text c.args.solution.now) (codes "}\n")
