use Rattle.std.proofs.Common.{◌+◌, ◌++◌, drop, refl, sym, ◌∙◌, ap}
use Rattle.std.proofs.lemmas.List.{append-nil, drop_all}
use Rattle.pz_source.specs.Layers.{layer_lines}
use Rattle.pz_base.proofs.ListLemmas.{drop-next}
use Rattle.pz_source.proofs.LayerLemmas.{layer_lines-next}
use Rattle.pz_source.proofs.layers.layer_lines.Goals as goal

pub loop-line-preserved : goal.loop-line-preserved
loop-line-preserved c =
    let xs = c.args.lines.now in
    let i = c.loop-line.line-index in
    let x = c.line-item.result in
    let rest = layer_lines (drop (i + 1) xs) in
    ap (λ ls. ls ++ rest) c.in_ok-add_layer.ensures
    ∙ (layer_lines-next c.loop-line.layers.items x (drop (i + 1) xs) ∙ (ap (λ ls. c.loop-line.layers.items ++ layer_lines ls) (sym (drop-next xs i x c.loop-line-test.true c.line-item.is)) ∙ c.loop-line.invariant))

pub loop-line-init : goal.loop-line-init
loop-line-init c = rw c.new-layers.ensures.items refl

pub returns : goal.returns
returns c =
    let layers = c.loop-line.layers.items in
    let over = drop_all c.loop-line.line-index c.args.lines.now c.loop-line-test.false in
    sym (append-nil layers) ∙ (ap (λ ls. layers ++ layer_lines ls) (sym over) ∙ c.loop-line.invariant)
