use Rattle.pz_turn.proofs.Common.{drop}
use Rattle.pz_turn.proofs.Skipping.{IsNoneTaken}
use Rattle.pz_turn.proofs.applying.is_left_out.Given as goal

abbrev pub invariant-loop-row : goal.invariant-loop-row
invariant-loop-row l =
    IsNoneTaken l.level.grid l.instance.scan (drop l.row-index l.row-items) → IsNoneTaken l.level.grid l.instance.scan l.instance.left
