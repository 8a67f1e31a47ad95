use Rattle.pz_grid.proofs.Common.{arith}
use Rattle.pz_grid.proofs.StillLemmas.{all_stay_more, all_stay_on, blocked}
use Rattle.pz_grid.proofs.movement.leaving.Goals as goal

pub layers-preserved : goal.layers-preserved
layers-preserved g c =
    let grid = c.args.sheet.now.grid in
    let mover = c.in-Some.mover in
    let before = all_stay_on grid c.args.x c.args.y c.args.from c.layers.start mover.layer c.layers.invariant.stay c.in-Some.ensures.next.2 in
    record {
      order = omega (arith, c.layers.invariant.order, c.in-Some.ensures.next.0);
      stay = all_stay_more grid c.args.x c.args.y c.args.from mover.layer before (blocked grid c.args.x c.args.y mover c.in-Some.ensures.next.1 (grind (arith, c.in_default-goal.is)));
    }

pub returns-in-Some-goal : goal.returns-in-Some-goal
returns-in-Some-goal g c =
    let next = c.in-Some.ensures.next in
    let low = c.in-Some.ensures.low in (
      omega (arith, c.layers.invariant.order, next.0),
      record { there = next.1; goes = grind (arith, c.in-Some-goal.is); on_map = c.in-Some-goal.ensures.on_map; layer_in = low.0; shallow = low.1; low = low.2 },
      all_stay_on c.args.sheet.now.grid c.args.x c.args.y c.args.from c.layers.start c.in-Some.mover.layer c.layers.invariant.stay next.2,
    )

pub returns : goal.returns
returns g c = all_stay_on c.args.sheet.now.grid c.args.x c.args.y c.args.from c.layers.start c.args.sheet.now.grid.depth c.layers.invariant.stay (λ layer late early. c.in_default.ensures.next layer late)
