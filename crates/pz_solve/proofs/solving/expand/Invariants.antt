use Rattle.std.proofs.Common.{◌≡◌, ◌≤◌, length, max, Some}
use Rattle.std.specs.Prelude.{slice_get}
use Rattle.pz_sheet.specs.Grid.{Grid}
use Rattle.pz_solve.specs.Found.{Found, IsSearch}
use Rattle.pz_solve.specs.Moves.{move_of}
use Rattle.pz_solve.specs.Trying.{AreOfGame}
use Rattle.pz_solve.proofs.Expanding.{AreTriedBelow}
use Rattle.pz_solve.proofs.solving.expand.Given as goal

-- the presses so far were tried, and none won
abbrev pub invariant-loop-number : goal.invariant-loop-number
invariant-loop-number l = record {
  longer : length l.fn.search ≤ length l.search;
  level_of : AreOfGame l.game l.search;
  room : length l.search ≤ max (length l.fn.search) l.most;
  tried : (start : Grid) (here : Found) → IsSearch (move_of l.game l.program) start l.fn.search l.index → slice_get l.fn.search l.index ≡ Some here →
      AreTriedBelow (move_of l.game l.program) start l.fn.search l.search l.index here l.number;
}
