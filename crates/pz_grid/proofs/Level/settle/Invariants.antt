use Rattle.pz_grid.proofs.Common.{IsMove, SameSize, moving, settle, ◌≡◌}
use Rattle.pz_grid.proofs.Level.settle.Given as goal

abbrev pub invariant-loop : goal.invariant-loop
invariant-loop l = record {
  settles : settle (moving l.self.grid) l.self.grid ≡ settle (moving l.initial.self.grid) l.initial.self.grid;
  size : SameSize l.initial.self.grid l.self.grid;
  marks : IsMove l.initial.self l.self;
}

abbrev pub decreases-loop : goal.decreases-loop
decreases-loop l = moving l.self.grid
