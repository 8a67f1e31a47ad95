use Rattle.pz_grid.proofs.Common.{AreStill, IsMove, SameSize, false, fold, gather, in_pass, move_at, spots_at, ◌-◌, ◌≡◌, ◌≤◌}
use Rattle.pz_grid.proofs.Level.pass_in.Given as goal

abbrev pub invariant-rows : goal.invariant-rows
invariant-rows l = record {
  within : l.from ≤ l.initial.self.grid.height;
  so_far : in_pass l.self.grid l.passed.moved ≡ fold move_at (in_pass l.initial.self.grid l.initial.passed.moved) (gather (spots_at l.initial.self.grid.depth l.x) l.from);
  left : l.passed.left ≡ false → (l.initial.passed.left ≡ false) × AreStill l.self.grid l.x 0 l.from;
  size : SameSize l.initial.self.grid l.self.grid;
  marks : IsMove l.initial.self l.self;
}

abbrev pub decreases-rows : goal.decreases-rows
decreases-rows l = l.initial.self.grid.height - l.from
