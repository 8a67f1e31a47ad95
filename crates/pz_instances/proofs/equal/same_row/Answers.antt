use Rattle.std.proofs.Common.{length, ap, sym, ◌∙◌}
use Rattle.std.specs.List.{list_all, zip}
use Rattle.pz_instances.specs.Equal.{same_cell, same_row}
use Rattle.pz_instances.proofs.EqualLemmas.{pointwise-zip}
use Rattle.pz_instances.proofs.equal.same_row.Goals as goal

pub returns-then-cells : goal.returns-then-cells
unfolding same_row
returns-then-cells c =
    let long = sym (ap length c.cells.ensures.cells) ∙ c.if-cells.true ∙ ap length c.cells-2.ensures.cells in
    c.cells_agree.ensures
    ∙ (λ i. list_all (λ pair. same_cell pair.0 pair.1) (zip (c.cells-then-cells.ensures.cells i) (c.cells-then-cells-2.ensures.cells i)))
    ∙ pointwise-zip same_cell c.args.a.now.cells c.args.b.now.cells long
