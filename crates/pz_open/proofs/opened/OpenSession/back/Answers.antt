use Rattle.std.proofs.Common.{rules, ◌≡◌, List, filter, nat_le, sym, subst}
use Rattle.std.specs.Prelude.{All, take}
use Rattle.std.specs.Arc.{arc_value}
use Rattle.pz_record.specs.declared.input.Input.{Input}
use Rattle.pz_case.specs.Plan.{PlanState}
use Rattle.pz_open.specs.declared.opened.Kept.{Kept}
use Rattle.pz_open.specs.Kept.{IsKeptOf}
use Rattle.pz_open.proofs.Keeps.{all_fewer}
use Rattle.pz_open.proofs.opened.OpenSession.back.Goals as goal

pub told_newest-requires-clause-kept : goal.told_newest-requires-clause-kept
told_newest-requires-clause-kept c =
    let kept : c.forget_behind.new.kept.items ≡ filter (λ k. nat_le k.count c.args.count) c.self.inside.kept.items = search rules in
    let inputs : c.deref-2.result.now ≡ c.self.inside.inputs.items = search rules in
    let plan : c.deref.result.now ≡ arc_value c.self.inside.plan = search rules in
    subst (λ (p : PlanState). All (IsKeptOf p (take c.args.count c.deref-2.result.now)) c.forget_behind.new.kept.items) (sym plan)
    (subst (λ (all : List Input). All (IsKeptOf (arc_value c.self.inside.plan) (take c.args.count all)) c.forget_behind.new.kept.items) (sym inputs)
    (subst (λ (others : List Kept). All (IsKeptOf (arc_value c.self.inside.plan) (take c.args.count c.self.inside.inputs.items)) others) (sym kept)
    (all_fewer (arc_value c.self.inside.plan) c.self.inside.inputs.items c.args.count c.self.inside.kept.items c.self.invariant.on_the_way)))
