use Rattle.std.proofs.Common.{List, ℕ, ◌++◌, codes, decimal, ap, ◌∙◌}
use Rattle.pz_solutions.proofs.Texts.{bounds_in_fields}
use Rattle.pz_solutions.proofs.line.put_bounds.Goals as goal

pub returns : goal.returns
returns c =
    let one = c.in_ok-put_number.ensures in
    let two = c.in_ok-put_number-2.ensures ∙ ap (λ (l : List ℕ). l ++ (codes ",\"levels\":" ++ decimal c.args.levels)) one in
    c.in_ok-extend_from_slice.ensures.items ∙ ap (λ (l : List ℕ). l ++ codes "}}") two
    ∙ bounds_in_fields c.args.line.now.items (codes "{\"outOfBounds\":{\"inputs\":") (decimal c.args.inputs) (codes ",\"levels\":") (decimal c.args.levels) (codes "}}")
