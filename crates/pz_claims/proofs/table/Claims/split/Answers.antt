use Rattle.std.proofs.Common.{sym, ap, ◌∙◌, arith, rules}
use Rattle.pz_claims.proofs.Steps.{splits}
use Rattle.pz_claims.proofs.table.Claims.split.Goals as goal

pub split_seat-seat-requires : goal.split_seat-seat-requires
split_seat-seat-requires c =
    let same = ap (λ h. h.of) c.maker.view_is ∙ c.requires.table ∙ sym c.self.view_is in
    (ap (λ h. h.table) same, search rules, splits _ _ _ _ (ap (λ m. m.0) c.maker.invariant.0) (ap (λ h. h.total) same ∙ sym c.self.invariant.0) (omega (arith, ap (λ h. h.made) c.maker.view_is)))
