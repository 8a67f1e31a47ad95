use Rattle.std.proofs.Common.{◌≡◌, length, map, take}
use Rattle.pz_case.specs.Playing.{shown_by}
use Rattle.pz_session.specs.Case.{items_of}
use Rattle.pz_replay.proofs.naming.named.Given as goal

abbrev pub invariant-loop-items : goal.invariant-loop-items
invariant-loop-items l = l.records.items ≡ map (shown_by items_of) (take (length l.yielded) l.job)
