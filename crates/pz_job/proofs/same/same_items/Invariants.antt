use Rattle.std.proofs.Common.{◌≡◌, length, take}
use Rattle.pz_job.proofs.same.same_items.Given as goal

abbrev pub invariant-loop-number : goal.invariant-loop-number
invariant-loop-number g l = (length l.items ≡ length l.others) × (take l.number l.items ≡ take l.number l.others)
