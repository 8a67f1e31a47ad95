use Rattle.std.proofs.Common.{◌<◌, ◌++◌, [], ◌∷◌, length, ap, ◌∙◌, arith}
use Rattle.pz_rules.specs.PlanInstances.{row_of}
use Rattle.pz_rules.proofs.Mapped.{mapped-more}
use Rattle.pz_rules.proofs.plan_instances.rows_of.Goals as goal

pub loop-row-preserved : goal.loop-row-preserved
loop-row-preserved c =
    let rows = c.args.rows.now in
    let i = c.loop-row.row-index in
    let out = c.loop-row.out.items in
    let in_range : i < length rows = omega arith in
    c.in_ok-push.ensures.items ∙ (ap (λ row. out ++ row ∷ []) c.in_ok-row_of.ensures
    ∙ mapped-more (row_of c.args.directed.now.layers.now c.args.directed.now.direction c.args.picks.now) out rows i c.row-item.result in_range c.row-item.is c.loop-row.invariant)
