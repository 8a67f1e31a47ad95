use Rattle.pz_grid.proofs.Common.{AreColumnsStill, Bool, Grid, arith, false, in_pass, moves_on, moving, pass_of, same_size_on, settle, true, ◌&&◌, ◌∙◌, ◌≡◌}
use Rattle.pz_grid.proofs.SettleLemmas.{fewer_from_moved, settle_moved, settle_done}
use Rattle.pz_grid.proofs.StillLemmas.{pass_rests}
use Rattle.pz_grid.proofs.Level.settle.Goals as goal

-- behind a pass that moves nothing, or leaves nothing that heads somewhere, the level is settled
settled : (grid new : Grid) (moved left : Bool) → in_pass new moved ≡ pass_of grid → (moved && left) ≡ false → (left ≡ false → AreColumnsStill new 0 new.width) → new ≡ settle (moving grid) grid
settled grid new false left e over still = grind (arith, e, settle_done grid)
settled grid new true left e over still = grind (arith, e, pass_rests new (still over), settle_done new, settle_moved grid)

pub loop-smaller : goal.loop-smaller
loop-smaller c = grind (arith, fewer_from_moved c.loop.self.grid)

pub loop-preserved : goal.loop-preserved
loop-preserved c = record {
  settles = grind (arith, settle_moved c.loop.self.grid);
  size = same_size_on _ _ _ c.loop.invariant.size c.pass.ensures.size;
  marks = moves_on _ _ _ c.loop.invariant.marks c.pass.ensures.marks;
}

pub returns-clause-settled : goal.returns-clause-settled
returns-clause-settled c =
    settled c.loop.self.grid c.pass.new.self.grid c.pass.result.moved c.pass.result.left c.pass.ensures.pass (grind arith) c.pass.ensures.left ∙ c.loop.invariant.settles

pub returns-clause-marks : goal.returns-clause-marks
returns-clause-marks c = moves_on _ _ _ c.loop.invariant.marks c.pass.ensures.marks
