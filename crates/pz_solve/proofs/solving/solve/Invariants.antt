use Rattle.std.proofs.Common.{◌≤◌, ◌-◌, length, max}
use Rattle.pz_solve.specs.Found.{IsSearch}
use Rattle.pz_solve.specs.Moves.{move_of}
use Rattle.pz_solve.specs.Trying.{AreOfGame}
use Rattle.pz_solve.proofs.solving.solve.Given as goal

-- each press was tried from the levels so far
abbrev pub invariant-levels : goal.invariant-levels
invariant-levels l = record {
  level_of : AreOfGame l.game l.search;
  room : length l.search ≤ max 1 l.most;
  search : IsSearch (move_of l.game l.program) l.level.grid l.search l.index;
}

abbrev pub decreases-levels : goal.decreases-levels
decreases-levels l = max 1 l.most - l.index
