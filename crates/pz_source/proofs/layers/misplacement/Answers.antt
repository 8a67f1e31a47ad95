use Rattle.std.proofs.Common.{◌≡◌, length, take, sym, ◌∙◌, ap, arith, length-take}
use Rattle.std.specs.Prelude.{Some, None}
use Rattle.pz_source.specs.Layers.{name_line_at, layer_fault, misplaces}
use Rattle.pz_base.proofs.FaultLemmas.{first_fault-hit, first_fault-pass}
use Rattle.pz_source.proofs.layers.misplacement.Goals as goal

pub returns-in-Some : goal.returns-in-Some
returns-in-Some c =
    let xs = c.args.layers.now in
    let i = c.loop-place.place in
    let x = c.index-layers-place.result in
    let check = misplaces c.args.names.now c.args.values.now in
    let long : length (take i xs) ≡ i = omega (arith, length-take i xs) in
    let named : check (take i xs) x ≡ Some c.in-Some.code =
    ap (λ n. layer_fault c.args.names.now c.args.values.now n x.names) long ∙ (ap (layer_fault c.args.names.now c.args.values.now i) (sym c.items.ensures) ∙ sym c.in-Some.ensures) in
    sym (first_fault-hit name_line_at check xs i x c.in-Some.code c.loop-place-test.true c.index-layers-place.is named) ∙ c.loop-place.invariant

pub loop-place-preserved : goal.loop-place-preserved
loop-place-preserved c =
    let xs = c.args.layers.now in
    let i = c.loop-place.place in
    let x = c.index-layers-place.result in
    let check = misplaces c.args.names.now c.args.values.now in
    let long : length (take i xs) ≡ i = omega (arith, length-take i xs) in
    let passed : check (take i xs) x ≡ None =
    ap (λ n. layer_fault c.args.names.now c.args.values.now n x.names) long ∙ (ap (layer_fault c.args.names.now c.args.values.now i) (sym c.items.ensures) ∙ sym c.in_default.ensures) in
    first_fault-pass name_line_at check xs i x c.loop-place-test.true c.index-layers-place.is passed ∙ c.loop-place.invariant
