use Rattle.std.proofs.Common.{◌≡◌, List, [], ◌++◌, map, fold, ap, ◌∙◌}
use Rattle.std.proofs.lemmas.List.{map-id}
use Rattle.pz_program.specs.declared.instance.Instance.{Instance}
use Rattle.pz_rules.specs.declared.plan_instances.Pick.{Pick}
use Rattle.pz_base.specs.Lists.{product}
use Rattle.pz_rules.specs.PlanInstances.{kept_after, options_of, picks_of}
use Rattle.pz_rules.proofs.plan_instances.consider_direction.Goals as goal

pub returns : goal.returns
unfolding picks_of
returns c =
    let plan = c.args.directed.now.plan.now in
    let direction = c.args.directed.now.direction in
    let step = kept_after c.args.directed.now.layers.now c.args.directed.now.below plan direction in
    let run : List Pick → List (List Pick) → List Instance = λ picks options. fold step c.args.kept.now (map (λ rest. picks ++ rest) (product options)) in
    let options : c.deref.result.now ≡ map (options_of c.args.table.now direction) plan.choices =
    c.deref.ensures.value ∙ c.in_ok-options.ensures ∙ ap (map (options_of c.args.table.now direction)) c.items-choices.ensures in
    c.in_ok-consider_all.ensures.kept ∙ ap (λ p. run p c.deref.result.now) c.new-picks.ensures.items ∙ ap (run []) options
    ∙ ap (fold step c.args.kept.now) (map-id (product (map (options_of c.args.table.now direction) plan.choices)))
