use Rattle.std.proofs.Common.{◌≡◌, ◌≤◌, ◌^◌, ◌%◌, length, take, not, eqb, w8, ap, sym, ◌∙◌, arith}
use Rattle.std.specs.Simd.Lanes.{mask_l, zip2}
use Rattle.std.proofs.lemmas.Bool.{eqb-true}
use Rattle.std.proofs.lemmas.List.{length-take-le}
use Rattle.std.proofs.lemmas.Simd.{length-zip2, mask_l-mod, tops_compared}
use Rattle.pz_lines.proofs.Blocks.{alike}
use Rattle.pz_lines.proofs.packed.begin_alike.Goals as goal

pub returns : goal.returns
returns c = λ none.
    let one = take 64 c.args.one.now in
    let other = take 64 c.args.other.now in
    let long : length one ≡ 64 = length-take-le 64 c.args.one.now (omega arith) in
    let same : length one ≡ length other = long ∙ sym (length-take-le 64 c.args.other.now (omega arith)) in
    let lanes = zip2 (λ a b. not (eqb a b)) one other in
    let few : length lanes ≤ 64 = omega (arith, length-zip2 (λ a b. not (eqb a b)) one other same) in
    alike one other same (sym (mask_l-mod lanes 64 few) ∙ (sym (ap (λ bits. mask_l bits % 2 ^ 64) (tops_compared w8 (λ a b. not (eqb a b)) one other)) ∙ eqb-true _ 0 none))
