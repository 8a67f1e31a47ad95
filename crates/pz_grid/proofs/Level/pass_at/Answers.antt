use Rattle.pz_grid.proofs.Common.{arith, fold_map_more, in_pass, move_at, moves_on, same_size_on, spot, sym}
use Rattle.pz_grid.proofs.StillLemmas.{layers_stay}
use Rattle.pz_grid.proofs.Level.pass_at.Goals as goal

pub overflow_add-from : goal.overflow_add-from
overflow_add-from c = omega (arith, c.in-Some.ensures.1.shallow)

pub layers-preserved : goal.layers-preserved
layers-preserved c =
    let start = in_pass c.args.self.now.grid c.args.moved_before in
    let i = c.layers.invariant in
    let found = c.in-Some.ensures in
    let before = layers_stay start c.layers.self.grid c.layers.moved c.args.x c.args.y c.layers.from c.in-Some.mover.layer found.0 (sym i.so_far) found.2 in
    record {
      within = omega (arith, found.1.layer_in, i.size.depth);
      so_far = grind (arith, before, c.carry.ensures.pass c.layers.moved, fold_map_more move_at start (spot c.args.x c.args.y) c.in-Some.mover.layer);
      size = same_size_on _ _ _ i.size c.carry.ensures.size;
      marks = moves_on _ _ _ i.marks c.carry.ensures.marks;
    }

pub returns-clause-pass : goal.returns-clause-pass
returns-clause-pass c =
    let i = c.layers.invariant in
    grind (arith, i.size.depth, layers_stay (in_pass c.args.self.now.grid c.args.moved_before) c.layers.self.grid c.layers.moved c.args.x c.args.y c.layers.from c.layers.self.grid.depth (omega (arith, i.within, i.size.depth)) (sym i.so_far) c.in_default.ensures)
