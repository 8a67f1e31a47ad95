use Rattle.std.proofs.Common.{◌≡◌, ◌≤◌, length, drop, None}
use Rattle.pz_entries.specs.Reading.{cut_last}
use Rattle.pz_entries.proofs.cutting.cut_last.Given as goal

abbrev pub invariant-loop-end : goal.invariant-loop-end
invariant-loop-end l = record { within : l.end ≤ length l.text; none : cut_last (drop l.end l.text) ≡ None }

abbrev pub decreases-loop-end : goal.decreases-loop-end
decreases-loop-end l = l.end
