use Rattle.pz_sheet.proofs.Common.{arith}
use Rattle.pz_sheet.proofs.ToggleLemmas.{none_stays}
use Rattle.pz_sheet.proofs.Sheet.carry.Goals as goal

pub land-requires : goal.land-requires
land-requires g c =
    let is = c.take_away.ensures.taken in
    (omega arith, (rw is c.requires.goal_on_map, (rw is (none_stays c.args.self.now.grid c.args.x c.args.y c.args.mover.layer c.args.next_x c.args.next_y c.requires.free), rw is c.take_away.ensures.on_layer)))
