use Rattle.std.proofs.Common.{◌≡◌}
use Rattle.pz_session.specs.declared.chain.TheConstants.{MOST_TICKS}
use Rattle.pz_sheet.specs.Grid.{IsOfGame, SameSize}
use Rattle.pz_solve.specs.Moves.{ticks}
use Rattle.pz_solve.proofs.moves.finish.Given as goal

-- the ticks that are left lead where all do
abbrev pub invariant-ticks : goal.invariant-ticks
invariant-ticks l = record {
  left : ticks l.game l.program l.allowed l.level.grid ≡ ticks l.fn.game l.fn.program MOST_TICKS l.fn.level.grid;
  game : IsOfGame l.fn.game l.level.grid;
  size : SameSize l.fn.level.grid l.level.grid;
}

abbrev pub decreases-ticks : goal.decreases-ticks
decreases-ticks l = l.allowed
