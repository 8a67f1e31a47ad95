use Rattle.pz_grid.proofs.Common.{AreColumnsStill, IsMove, SameSize, false, fold, gather, in_pass, move_at, spots_in, ◌-◌, ◌≡◌, ◌≤◌}
use Rattle.pz_grid.proofs.Level.pass.Given as goal

abbrev pub invariant-columns : goal.invariant-columns
invariant-columns l = record {
  within : l.from ≤ l.initial.self.grid.width;
  so_far : in_pass l.self.grid l.passed.moved ≡ fold move_at (in_pass l.initial.self.grid false) (gather (spots_in l.initial.self.grid.depth l.initial.self.grid.height) l.from);
  left : l.passed.left ≡ false → AreColumnsStill l.self.grid 0 l.from;
  size : SameSize l.initial.self.grid l.self.grid;
  marks : IsMove l.initial.self l.self;
}

abbrev pub decreases-columns : goal.decreases-columns
decreases-columns l = l.initial.self.grid.width - l.from
