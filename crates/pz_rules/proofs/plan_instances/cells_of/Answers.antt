use Rattle.std.proofs.Common.{◌<◌, ◌++◌, [], ◌∷◌, length, ap, ◌∙◌, arith}
use Rattle.pz_rules.specs.PlanInstances.{cell_of}
use Rattle.pz_rules.proofs.Mapped.{mapped-more}
use Rattle.pz_rules.proofs.plan_instances.cells_of.Goals as goal

pub loop-terms-preserved : goal.loop-terms-preserved
loop-terms-preserved c =
    let cells = c.args.cells.now in
    let i = c.loop-terms.terms-index in
    let out = c.loop-terms.out.items in
    let in_range : i < length cells = omega arith in
    c.in_ok-push.ensures.items ∙ (ap (λ cell. out ++ cell ∷ []) c.in_ok-cell_of.ensures
    ∙ mapped-more (cell_of c.args.directed.now.layers.now c.args.directed.now.direction c.args.picks.now) out cells i c.terms-item.result in_range c.terms-item.is c.loop-terms.invariant)
