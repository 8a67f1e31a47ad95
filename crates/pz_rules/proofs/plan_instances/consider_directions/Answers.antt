use Rattle.std.proofs.Common.{◌≡◌, ◌<◌, length, get_or, ap, ◌∙◌, arith}
use Rattle.std.proofs.lemmas.List.{get_or_default}
use Rattle.pz_game.specs.declared.direction.Dir.{Dir}
use Rattle.pz_game.specs.declared.direction.Dir.TheVariants.{Up}
use Rattle.pz_rules.proofs.ExpansionLemmas.{firsts-possible_more}
use Rattle.pz_rules.proofs.plan_instances.consider_directions.Goals as goal

pub loop-direction-preserved : goal.loop-direction-preserved
loop-direction-preserved c =
    let plan = c.args.plan.now in
    let ds = plan.directions in
    let i = c.loop-direction.direction-index in
    let same_directions : c.items-direction-items.result.now ≡ ds = c.items-direction-items.ensures in
    let d : Dir = get_or c.items-direction-items.result.now i Up in
    let in_range : i < length ds = omega (arith, ap length same_directions) in
    let at : d ≡ get_or ds i d = ap (λ l. get_or l i Up) same_directions ∙ get_or_default ds i Up d in_range in
    c.in_ok-consider_direction.ensures
    ∙ firsts-possible_more c.args.table.now c.args.layers.now c.args.below plan ds i d c.loop-direction.kept in_range at c.loop-direction.invariant
