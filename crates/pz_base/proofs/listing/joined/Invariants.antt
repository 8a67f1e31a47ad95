use Rattle.std.proofs.Common.{◌≡◌, ◌++◌}
use Rattle.pz_base.proofs.listing.joined.Given as goal

abbrev pub invariant-loop-item : goal.invariant-loop-item
invariant-loop-item g l = l.items.items ≡ l.fn.list ++ l.yielded
