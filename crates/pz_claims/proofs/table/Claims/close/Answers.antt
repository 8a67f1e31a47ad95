use Rattle.std.proofs.Common.{◌≡◌, ℕ, ◌+◌, ◌<◌, sym, ap, ◌∙◌, subst, refl}
use mathlib.Core.Option.{some}
use lib.ListN.{get_elem?}
use Rattle.pz_claims.specs.Holders.{Makes}
use Rattle.pz_claims.specs.Rule.{Once, IsLawful}
use Rattle.pz_claims.proofs.Closing.{closes}
use Rattle.pz_claims.proofs.table.Claims.close.Goals as goal

pub returns : goal.returns
returns c =
    let final = c.close_with-closed.ensures.values.2 in
    let word = c.word-word.result in
    let is = c.maker.view_is in
    let key = ap (λ (m : Makes). m.of.total) is ∙ ap (λ h. h.total) c.requires.table ∙ sym (ap (λ h. h.total) c.self.view_is) ∙ sym c.self.invariant.0 in
    let P : Makes → Type 0 = λ (m : Makes). (m.made ≡ 0 → word ≡ 0) × (0 < m.made → word ≡ m.of.total + m.made) × (0 < m.made → Once m.of.total m.numbers) in
    let kept : IsLawful c.self.inside.table.shared.key final.0 = final.1.0 in
    let told = subst P is (closes _ _ _ _ final.0 word (ap (λ m. m.0) c.maker.invariant.0) refl (ap (λ (m : Makes). m.joined) is ∙ c.requires.joined ∙ sym (ap (λ (m : Makes). m.made) is)) c.maker.invariant.1
    (subst (λ k. IsLawful k final.0) (sym key) kept) final.1.1 (subst (λ ws. get_elem? ws 0 ≡ some word) (sym final.2) c.word-word.ensures)) in
    let total = ap (λ h. h.total) c.requires.table in record {
      none = told.0;
      word = λ h. told.1 h ∙ ap (λ (k : ℕ). k + c.args.maker.made) total;
      once = λ h. subst (λ k. Once k c.args.maker.numbers) total (told.2 h);
    }
