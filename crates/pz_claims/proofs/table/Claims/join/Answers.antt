use Rattle.std.proofs.Common.{sym, ap, ◌∙◌, subst, rules}
use Rattle.pz_claims.specs.Rule.{NoneTwice}
use Rattle.pz_claims.proofs.Steps.{looks}
use Rattle.pz_claims.proofs.Counting.{parted}
use Rattle.pz_claims.proofs.table.Claims.join.Goals as goal

pub fetch_add-requires : goal.fetch_add-requires
fetch_add-requires c =
    let same = ap (λ h. h.of) c.token.view_is ∙ ap (λ m. m.of) c.take_in.ensures ∙ c.requires.maker ∙ sym c.self.view_is in
    (ap (λ h. h.table) same, search rules, looks _ _ _ _)

pub returns-clause-apart : goal.returns-clause-apart
returns-clause-apart c =
    let told = c.fetch_add.ensures.2.1 in
    parted c.args.maker.numbers c.args.ended.numbers (subst NoneTwice (ap (λ h. h.numbers) c.token.view_is ∙ ap (λ m. m.numbers) c.take_in.ensures) told)
