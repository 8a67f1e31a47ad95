use Rattle.std.proofs.Common.{length, ◌≤◌}
use Rattle.pz_open.proofs.opened.last_kept.Given as goal

abbrev pub invariant-kept : goal.invariant-kept
invariant-kept l = l.left ≤ length l.kept.items

abbrev pub decreases-kept : goal.decreases-kept
decreases-kept l = l.left
