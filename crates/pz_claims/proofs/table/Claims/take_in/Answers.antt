use Rattle.std.proofs.Common.{sym, ap, ◌∙◌, rules}
use Rattle.pz_claims.proofs.Steps.{joins}
use Rattle.pz_claims.proofs.table.Claims.take_in.Goals as goal

pub join_seat-requires : goal.join_seat-requires
join_seat-requires c =
    let same = ap (λ h. h.of) c.maker.view_is ∙ c.requires.maker ∙ sym c.self.view_is in
    let also = ap (λ h. h.of) c.ended.view_is ∙ c.requires.ended ∙ sym c.self.view_is in
    let key = sym c.self.invariant.0 in (
      ap (λ h. h.table) same,
      ap (λ h. h.table) also,
      ap (λ m. m.1) c.ended.invariant.0,
      search rules,
      joins _ _ _ _ _ _ (ap (λ m. m.0) c.maker.invariant.0) (ap (λ h. h.total) same ∙ key) (ap (λ m. m.0) c.ended.invariant.0) (ap (λ h. h.total) also ∙ key),
    )
