use Rattle.std.proofs.Common.{◌≡◌, length}
use Rattle.pz_text.specs.Cutting.{holds_only}
use Rattle.pz_text.proofs.cutting.holds_only.Given as goal

abbrev pub invariant-loop-c : goal.invariant-loop-c
invariant-loop-c l = holds_only l.mark l.rest ≡ holds_only l.mark l.line

abbrev pub decreases-loop-c : goal.decreases-loop-c
decreases-loop-c l = length l.rest
