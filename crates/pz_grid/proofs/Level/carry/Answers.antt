use Rattle.pz_grid.proofs.Common.{arith, eq-eqb}
use Rattle.pz_grid.proofs.MarkLemmas.{marked_carried}
use Rattle.pz_grid.proofs.MoveLemmas.{moves_piece}
use Rattle.pz_grid.proofs.Level.carry.Goals as goal

pub invariant_of-self : goal.invariant_of-self
invariant_of-self c =
    let next = c.args.next in
    rw c.carry.ensures.carried (marked_carried _ c.args.x c.args.y c.args.mover next.0 next.1 (grind arith) (grind (arith, c.requires.leaves.on_map.0)) (record {
      row = λ other is. grind (arith, c.mark.ensures.rows next.1 other, eq-eqb next.1 next.1, is);
      column = λ other is. grind (arith, c.mark.ensures.columns next.0 other, eq-eqb next.0 next.0, is);
    }) c.self.invariant)

pub returns-clause-marks : goal.returns-clause-marks
returns-clause-marks c =
    moves_piece c.args.self.now c.mark.new.self _ c.args.x c.args.y c.args.mover c.args.next c.requires.leaves c.mark.ensures.grid c.mark.ensures.rows c.mark.ensures.columns (grind arith) (grind arith) (grind arith) c.carry.ensures.there
