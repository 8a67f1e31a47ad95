use Rattle.std.proofs.Common.{rules, ◌≡◌, ℕ, ◌≤◌, ◌++◌, ap, ◌∙◌, List, Option, None, filter, length, nat_le, sym, subst, IfSome}
use Rattle.std.specs.Prelude.{All, take}
use Rattle.std.proofs.Math.Seq.{take-append_seam}
use Rattle.std.specs.Arc.{arc_value}
use Rattle.pz_record.specs.declared.input.Input.{Input}
use Rattle.pz_record.specs.declared.input.TheConstants.{MOST_INPUTS}
use Rattle.pz_case.specs.Plan.{PlanState}
use Rattle.pz_open.specs.declared.opened.Kept.{Kept}
use Rattle.pz_open.specs.declared.place.Place.{Place}
use Rattle.pz_open.specs.Kept.{IsKeptOf, IsStanding}
use Rattle.pz_open.proofs.Keeps.{all_fewer}
use Rattle.pz_open.proofs.opened.OpenSession.give.Goals as goal

pub invariant_of-self-in-Err : goal.invariant_of-self-in-Err
invariant_of-self-in-Err c =
    let plan = arc_value c.self.inside.plan in
    let gone : c.take.new.self ≡ None = search rules in
    let kept : c.forget_behind.new.kept.items ≡ filter (λ k. nat_le k.count c.len-before.result) c.told_newest.new.kept.items = search rules in
    let all : c.deref-2.result.now ≡ c.self.inside.inputs.items ++ c.args.inputs.now = search rules in
    let same : c.deref.result.now ≡ plan = search rules in
    let counted : c.len-before.result ≡ length c.self.inside.inputs.items = search rules in
    let first : take c.len-before.result (c.self.inside.inputs.items ++ c.args.inputs.now) ≡ c.self.inside.inputs.items =
    ap (λ (count : ℕ). take count (c.self.inside.inputs.items ++ c.args.inputs.now)) counted ∙ take-append_seam c.self.inside.inputs.items c.args.inputs.now in
    let more : c.extend_from_slice.new.self.items ≡ c.self.inside.inputs.items ++ c.args.inputs.now = search rules in
    let cut : c.truncate.new.self.items ≡ take c.len-before.result c.extend_from_slice.new.self.items = search rules in
    let inputs : c.truncate.new.self.items ≡ c.self.inside.inputs.items = cut ∙ ap (take c.len-before.result) more ∙ first in
    let are : All (IsKeptOf plan (c.self.inside.inputs.items ++ c.args.inputs.now)) c.told_newest.new.kept.items =
    subst (λ (p : PlanState). All (IsKeptOf p (c.self.inside.inputs.items ++ c.args.inputs.now)) c.told_newest.new.kept.items) same
    (subst (λ (xs : List Input). All (IsKeptOf c.deref.result.now xs) c.told_newest.new.kept.items) all c.told_newest.ensures.kept) in
    record {
      few = subst (λ (xs : List Input). length xs ≤ MOST_INPUTS) (sym inputs) c.self.invariant.few;
      standing = subst (λ (place : Option Place). IfSome place (IsStanding plan c.truncate.new.self.items)) (sym gone) tt;
      on_the_way = subst (λ (xs : List Input). All (IsKeptOf plan xs) c.forget_behind.new.kept.items) (sym inputs)
          (subst (λ (others : List Kept). All (IsKeptOf plan c.self.inside.inputs.items) others) (sym kept)
          (subst (λ (xs : List Input). All (IsKeptOf plan xs) (filter (λ k. nat_le k.count c.len-before.result) c.told_newest.new.kept.items)) first
          (all_fewer plan (c.self.inside.inputs.items ++ c.args.inputs.now) c.len-before.result c.told_newest.new.kept.items are)));
    }
