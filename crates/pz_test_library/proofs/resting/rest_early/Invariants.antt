use Rattle.pz_grid.specs.Grid.{IsOfGame}
use Rattle.pz_test_library.proofs.resting.rest_early.Given as goal

-- the level stays one of the game
abbrev pub invariant-loop-block : goal.invariant-loop-block
invariant-loop-block l = IsOfGame l.game l.level.grid
