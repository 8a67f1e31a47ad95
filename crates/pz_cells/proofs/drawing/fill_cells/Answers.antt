use Rattle.pz_cells.proofs.Common.{◌<◌, length, arith, refl, ◌∙◌, filled_cell}
use Rattle.pz_cells.proofs.ListLemmas.{small_cell, sound_at, Turns, walked_more, walked_all}
use Rattle.pz_cells.proofs.drawing.fill_cells.Goals as goal

pub loop-index-init : goal.loop-index-init
loop-index-init g c = record { long = refl; turned = λ k cell below. absurd (omega (arith, below)); rest = λ k cell above. refl }

pub fill-requires : goal.fill-requires
fill-requires g c =
    let index = c.loop-index.index in
    let within : index < length c.args.cells.now.items = omega (arith, c.loop-index-test.true, c.len-index-end.ensures ∙ c.args.cells.now.ok.0) in
    let sound = sound_at c.args.layers.now c.args.cells.now.items index c.index_mut.result.now c.requires.sound within (c.index_mut.ensures.value ∙ c.loop-index.invariant.rest index c.index_mut.result.now (omega arith)) in
    (small_cell _ c.depth.ensures.law.short, (search, (c.requires.low, (sound, c.requires.on_layer))))

pub loop-index-preserved : goal.loop-index-preserved
loop-index-preserved g c = walked_more (Turns c.args.layers.now (filled_cell c.args.layer c.args.piece)) c.args.cells.now.items c.loop-index.cells.items c.loop-index.index c.index_mut.result.now c.fill.new.self (omega (arith, c.loop-index-test.true, c.len-index-end.ensures ∙ c.args.cells.now.ok.0, c.loop-index.invariant.long)) c.loop-index.invariant c.index_mut.ensures.value (c.fill.ensures.sound, c.fill.ensures.cell)

pub returns : goal.returns
returns g c = walked_all c.args.layers.now (filled_cell c.args.layer c.args.piece) c.args.cells.now.items c.loop-index.cells.items (λ k cell below. c.loop-index.invariant.turned k cell (omega (arith, below, c.loop-index-test.false, c.len-index-end.ensures ∙ c.args.cells.now.ok.0))) c.loop-index.invariant.long
