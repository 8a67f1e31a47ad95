use Rattle.std.proofs.Common.{length}
use Rattle.pz_engine.proofs.Taken.{AreUnderWay}
use Rattle.pz_engine.proofs.engine.play_case.Given as goal

abbrev pub decreases-items : goal.decreases-items
decreases-items l = length l.run.items

abbrev pub invariant-items : goal.invariant-items
invariant-items l = AreUnderWay l.from l.session l.case l.run.items l.written
