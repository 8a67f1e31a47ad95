use Rattle.std.proofs.Common.{nat_eq, subst}
use Rattle.pz_planes.specs.Planes.{PlaneSets, AreChanged, toggled_note}
use Rattle.pz_planes.proofs.planes.Planes.toggle.Goals as goal

pub returns : goal.returns
returns c =
    let new : PlaneSets = record { rows = c.toggle.new.self; columns = c.toggle-2.new.self } in
    subst (λ (old : PlaneSets). AreChanged old new c.args.x c.args.y (λ other was. toggled_note (nat_eq other c.args.object) was)) c.self.view_is (record { rows = c.toggle.ensures; columns = c.toggle-2.ensures })
