use Rattle.std.proofs.Common.{◌≡◌, ◌-◌, length}
use Rattle.pz_sheet.specs.Grid.{SameSize}
use Rattle.pz_trace.specs.FiringPlay.{IsPlayed, ends_left, left_in, setting_of}
use Rattle.pz_trace.proofs.block_play.BlockPlay.next_in_pass.Given as goal

abbrev pub decreases-instances : goal.decreases-instances
decreases-instances l = length l.instances - l.self.spot.moment.instance

abbrev pub invariant-instances : goal.invariant-instances
invariant-instances l = record {
  left : left_in l.self ≡ left_in l.fn.self;
  setting : setting_of l.self ≡ setting_of l.fn.self;
  group : l.self.spot.moment.group ≡ l.fn.self.spot.moment.group;
  ends : ends_left (setting_of l.self) l.self.spot ≡ ends_left (setting_of l.fn.self) l.fn.self.spot;
  played : IsPlayed l.self;
  size : SameSize l.fn.self.level.grid l.self.level.grid;
}
