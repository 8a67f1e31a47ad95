use Rattle.std.proofs.Common.{◌≡◌, true, [], ◌∷◌, ◌++◌, refl, ap, sym, ◌∙◌}
use Rattle.std.specs.Str.{bytes_eq}
use Rattle.pz_names.specs.Legend.{joint_names}
use Rattle.pz_names.proofs.legend.joined.Goals as goal

pub loop-name-preserved : goal.loop-name-preserved
loop-name-preserved c =
    let joint = c.args.joint.now in
    let name = c.in-Some.name.now in
    let other = c.in-Some-split_first.other.now in
    let more = c.in-Some-split_first.more.now in
    let pushed : c.push.new.self.items ≡ c.loop-name.parts.items ++ name ∷ [] = c.in_ok-push.ensures.items ∙ ap (λ n. c.loop-name.parts.items ++ n ∷ []) c.in_ok-copy.ensures in
    let parts : c.loop-name.rest.now ≡ name ∷ other ∷ more = c.in-Some.ensures.cases.0 ∙ ap (λ r. name ∷ r) c.in-Some-split_first.ensures.cases.0 in
    let is : bytes_eq other joint ≡ true = sym c.is.ensures ∙ c.if-not-is.false in
    let step : joint_names joint c.loop-name.parts.items (name ∷ other ∷ more) ≡ joint_names joint (c.loop-name.parts.items ++ name ∷ []) more = rw is refl in
    ap (λ p. joint_names joint p more) pushed ∙ (sym step ∙ (ap (joint_names joint c.loop-name.parts.items) (sym parts) ∙ c.loop-name.invariant))
