use Rattle.std.proofs.Common.{rules, ◌≡◌, ℕ, length, Option, sym, subst, IfSome}
use Rattle.std.specs.Arc.{arc_value}
use Rattle.pz_open.specs.declared.place.Place.{Place}
use Rattle.pz_open.specs.Kept.{IsKeptOf, IsStanding}
use Rattle.pz_open.proofs.Keeps.{kept_here}
use Rattle.pz_open.proofs.opened.OpenSession.keep.Goals as goal

pub invariant_of-self : goal.invariant_of-self
invariant_of-self c =
    let plan = arc_value c.self.inside.plan in let inputs = c.self.inside.inputs.items in
    let counted : c.len-count.result ≡ length inputs = search rules in
    let stands = subst (λ (place : Option Place). IfSome place (IsStanding plan inputs)) c.in-Some.is c.self.invariant.standing in
    record {
      few = c.self.invariant.few;
      standing = c.self.invariant.standing;
      on_the_way = c.keep.ensures plan inputs
          (subst (λ (count : ℕ). IsKeptOf plan inputs (record { count = count; place = c.in-Some.place })) (sym counted) (kept_here plan inputs c.in-Some.place stands))
          (c.thin.ensures plan inputs c.self.invariant.on_the_way);
    }

pub invariant_of-self-in_default : goal.invariant_of-self-in_default
invariant_of-self-in_default c = record {
  few = c.self.invariant.few;
  standing = c.self.invariant.standing;
  on_the_way = c.thin.ensures (arc_value c.self.inside.plan) c.self.inside.inputs.items c.self.invariant.on_the_way;
}
