use Rattle.pz_cells.proofs.Common.{◌<◌, length, arith, ◌∙◌, get_or-set_other, length-set, IsStilled}
use Rattle.pz_cells.proofs.ListLemmas.{small_cell, sound_at, turned_set}
use Rattle.pz_cells.proofs.stilling.still_cells.Goals as goal

pub still_all-requires : goal.still_all-requires
still_all-requires g c =
    let index = c.loop-index.index in
    let i = c.loop-index.invariant in
    let here = c.index_mut.result.now in
    let sound = sound_at c.args.layers.now c.args.cells.now.items index here c.requires.sound (omega (arith, c.loop-index-test.true, c.requires.range.1)) (c.index_mut.ensures.value ∙ i.behind index here (omega arith)) in
    (small_cell _ c.depth.ensures.law.short, (search, sound))

pub loop-index-preserved : goal.loop-index-preserved
loop-index-preserved g c =
    let index = c.loop-index.index in
    let i = c.loop-index.invariant in
    let here = c.index_mut.result.now in
    let new = c.still_all.new.self in
    let old = c.args.cells.now.items in
    let now = c.loop-index.cells.items in
    let within : index < length now = omega (arith, c.loop-index-test.true, c.requires.range.1, i.long) in
    record {
      long = length-set now index new ∙ i.long;
      stilled = λ k cell late below. turned_set (IsStilled c.args.layers.now) old now index k here new cell within c.index_mut.ensures.value (i.behind index cell (omega arith))
          (record { sound = c.still_all.ensures.sound; seen_still = c.still_all.ensures.cell; nowhere = c.still_all.ensures.none; objects = c.still_all.ensures.objects }) (λ other. i.stilled k cell late (omega (arith, below, other)));
      before = λ k cell early. get_or-set_other now index k new cell (λ same. absurd (omega (arith, same, early, c.loop-index.auto.index))) ∙ i.before k cell early;
      behind = λ k cell past. get_or-set_other now index k new cell (λ same. absurd (omega (arith, same, past))) ∙ i.behind k cell (omega (arith, past));
    }
