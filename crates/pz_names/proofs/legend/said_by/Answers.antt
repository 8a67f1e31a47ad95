use Rattle.std.proofs.Common.{◌≡◌, true, false, [], ◌∷◌, refl, ap, sym, ◌∙◌, rules}
use Rattle.std.specs.Prelude.{codes, option_map}
use Rattle.std.specs.Str.{bytes_eq}
use Rattle.pz_names.specs.Legend.{joint_names, said_by}
use Rattle.pz_names.specs.declared.legend.Said.TheVariants.{AllOf, AnyOf}
use Rattle.pz_names.proofs.legend.said_by.Goals as goal

pub returns-in_ok-joined : goal.returns-in_ok-joined
returns-in_ok-joined c =
    let right = c.args.right.now in
    let joint = c.in-Some-split_first.joint.now in
    let parts : right ≡ c.in-Some.first.now ∷ joint ∷ c.in-Some-split_first.field-0-1.now = c.in-Some.ensures.cases.0 ∙ ap (λ r. c.in-Some.first.now ∷ r) c.in-Some-split_first.ensures.cases.0 in
    let is : bytes_eq joint (codes "and") ≡ true = sym c.is.ensures ∙ c.if-is.true in
    let said : said_by right ≡ option_map (λ ps. AllOf ps) (joint_names (codes "and") [] right) = rw (parts, is) refl in
    let mapped : c.map.result ≡ option_map (λ ps. AllOf ps) c.in_ok-joined.field-0 = search rules in
    mapped ∙ (ap (option_map (λ ps. AllOf ps)) c.in_ok-joined.ensures ∙ sym said)

pub returns-in_ok-joined-2 : goal.returns-in_ok-joined-2
returns-in_ok-joined-2 c =
    let right = c.args.right.now in
    let joint = c.in-Some-split_first.joint.now in
    let parts : right ≡ c.in-Some.first.now ∷ joint ∷ c.in-Some-split_first.field-0-1.now = c.in-Some.ensures.cases.0 ∙ ap (λ r. c.in-Some.first.now ∷ r) c.in-Some-split_first.ensures.cases.0 in
    let is : bytes_eq joint (codes "and") ≡ false = sym c.is.ensures ∙ c.if-is.false in
    let said : said_by right ≡ option_map (λ ps. AnyOf ps) (joint_names (codes "or") [] right) = rw (parts, is) refl in
    let mapped : c.map-else-is.result ≡ option_map (λ ps. AnyOf ps) c.in_ok-joined-2.field-0 = search rules in
    mapped ∙ (ap (option_map (λ ps. AnyOf ps)) c.in_ok-joined-2.ensures ∙ sym said)
