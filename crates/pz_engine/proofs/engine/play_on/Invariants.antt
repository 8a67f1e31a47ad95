use Rattle.std.proofs.Common.{◌≡◌}
use Rattle.pz_engine.proofs.Told.{AreHeld}
use Rattle.pz_engine.proofs.engine.play_on.Given as goal

abbrev pub invariant-loop-taken : goal.invariant-loop-taken
invariant-loop-taken l = AreHeld l.session l.name l.fn.frames l.taken l.fn.run.items l.run.items l.written × (l.frames ≡ l.fn.frames)
