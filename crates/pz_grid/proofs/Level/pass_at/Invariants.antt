use Rattle.pz_grid.proofs.Common.{IsMove, SameSize, fold, in_pass, map, move_at, range_with_len, spot, ◌-◌, ◌≡◌, ◌≤◌}
use Rattle.pz_grid.proofs.Level.pass_at.Given as goal

abbrev pub invariant-layers : goal.invariant-layers
invariant-layers l = record {
  within : l.from ≤ l.initial.self.grid.depth;
  so_far : in_pass l.self.grid l.moved ≡ fold move_at (in_pass l.initial.self.grid l.initial.moved) (map (spot l.x l.y) (range_with_len 0 l.from));
  size : SameSize l.initial.self.grid l.self.grid;
  marks : IsMove l.initial.self l.self;
}

abbrev pub decreases-layers : goal.decreases-layers
decreases-layers l = l.initial.self.grid.depth - l.from
