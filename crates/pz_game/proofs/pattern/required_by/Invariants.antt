use Rattle.std.proofs.Common.{take}
use Rattle.std.specs.List.{All}
use Rattle.pz_game.specs.Masks.{IsLow}
use Rattle.pz_game.specs.Pattern.{AreRequired}
use Rattle.pz_game.proofs.pattern.required_by.Given as goal

abbrev pub invariant-loop-cell : goal.invariant-loop-cell
invariant-loop-cell l = All (All IsLow) l.cells → AreRequired (take l.cell-index l.cells) l.required
