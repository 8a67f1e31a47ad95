use Rattle.std.proofs.Common.{sym, ap, ◌∙◌, rules}
use Rattle.pz_claims.proofs.Steps.{claims}
use Rattle.pz_claims.proofs.table.Claims.claim.Goals as goal

pub fetch_add-found-requires : goal.fetch_add-found-requires
fetch_add-found-requires c =
    let i = c.self.invariant in
    let same = ap (λ h. h.of) c.seat.view_is ∙ c.requires ∙ sym c.self.view_is in
    (ap (λ h. h.table) same, search rules, claims _ _ _ c.seat.invariant (ap (λ h. h.total) same ∙ sym i.0) (rw i.0 i.3) _)
