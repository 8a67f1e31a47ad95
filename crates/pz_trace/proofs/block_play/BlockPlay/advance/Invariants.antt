use Rattle.std.proofs.Common.{◌≡◌}
use Rattle.pz_sheet.specs.Grid.{SameSize}
use Rattle.pz_trace.specs.FiringPlay.{IsPlayed, ends_left, left_in, setting_of}
use Rattle.pz_trace.proofs.block_play.BlockPlay.advance.Given as goal

abbrev pub decreases-passes : goal.decreases-passes
decreases-passes l = ends_left (setting_of l.self) l.self.spot

abbrev pub invariant-passes : goal.invariant-passes
invariant-passes l = record {
  left : left_in l.self ≡ left_in l.fn.self;
  setting : setting_of l.self ≡ setting_of l.fn.self;
  played : IsPlayed l.self;
  size : SameSize l.fn.self.level.grid l.self.level.grid;
}
