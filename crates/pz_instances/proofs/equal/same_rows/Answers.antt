use Rattle.std.proofs.Common.{◌∙◌}
use Rattle.pz_instances.specs.Equal.{same_row}
use Rattle.pz_instances.proofs.EqualLemmas.{pointwise-zip}
use Rattle.pz_instances.proofs.equal.same_rows.Goals as goal

pub returns-then-a-b : goal.returns-then-a-b
returns-then-a-b c =
    c.rows_agree.ensures ∙ pointwise-zip same_row c.args.a.now c.args.b.now c.if-a-b.true
