use Rattle.std.proofs.Common.{◌≡◌, ◌<◌, List, [], ◌∷◌, ◌++◌, map, fold, length, slice_index_or, ap, sym, ◌∙◌, arith}
use Rattle.std.proofs.lemmas.List.{get_or_default}
use Rattle.std.proofs.lemmas.Grind.{common_steps}
use Rattle.pz_program.specs.declared.instance.Instance.{Instance}
use Rattle.pz_rules.specs.declared.plan_instances.Pick.{Pick}
use Rattle.pz_rules.specs.declared.plan_instances.Pick.TheVariants.{Object}
use Rattle.pz_base.specs.Lists.{product}
use Rattle.pz_rules.specs.PlanInstances.{kept_after}
use Rattle.pz_plan.proofs.Products.{fold-headed_more}
use Rattle.pz_rules.proofs.plan_instances.+consider_all.Goals as goal

pub options-preserved : goal.options-preserved
options-preserved t c =
    let xs = c.items-pick-items.result.now in
    let i = c.options.pick-index in
    let x = slice_index_or xs i (Object 0) in
    let others = c.in-Some.others.now in
    let step = kept_after c.args.directed.now.layers.now c.args.directed.now.below c.args.directed.now.plan.now c.args.directed.now.direction in
    let in_range : i < length xs = omega arith in
    let after : List Pick → List Instance = λ p. fold step c.options.kept (map (λ rest. p ++ rest) (product others)) in
    let picked : c.push.new.self.items ≡ c.args.picks.now.items ++ x ∷ [] =
    c.in_ok-push.ensures.items ∙ ap (λ p. p ++ x ∷ []) c.options.invariant.1 in
    let more = fold-headed_more step c.args.kept.now c.options.kept c.args.picks.now.items others xs i x in_range (get_or_default xs i (Object 0) x in_range) c.options.invariant.0 in
    let all_picked : c.consider_all.new.picks.items ≡ c.args.picks.now.items ++ x ∷ [] = c.in_ok-consider_all.ensures.picks ∙ picked in (
      c.in_ok-consider_all.ensures.kept ∙ ap after picked ∙ sym more,
      grind (arith, common_steps, all_picked, c.pop.ensures.rest),
    )
