use Rattle.std.proofs.Common.{◌≡◌, ◌+◌, ◌-◌, ◌<◌, ◌∷◌, ◌++◌, length, Some, suc, refl, sym, arith}
use Rattle.std.proofs.Math.Seq.{get_or-append_seam}
use Rattle.std.proofs.lemmas.Bool.Decides.{nat_tests}
use Rattle.std.proofs.lemmas.List.{length-append}
use Rattle.std.proofs.lemmas.Option.{slice_get_read}
use Rattle.std.specs.Prelude.{slice_get}
use Rattle.pz_trace.proofs.laws.line_is_the_rules.Goals as goal

pub returns : goal.returns
returns c = λ above below rule instance is.
    let rules = above ++ rule ∷ below in
    let all : length rules ≡ length above + suc (length below) = length-append above (rule ∷ below) in
    let at : length rules - 1 - instance.below ≡ length above = omega (arith, all, is) in
    let within : length above < length rules = omega (arith, all) in
    let here : slice_get rules (length above) ≡ Some rule = slice_get_read rules (length rules) (length above) rule refl within (sym (get_or-append_seam above rule below rule)) in
    grind (arith, nat_tests, all, is, at, here)
