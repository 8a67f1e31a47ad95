use Rattle.pz_turn.proofs.Common.{◌≡◌, false, SameSize, AreCalmFrom, pass_of}
use Rattle.pz_turn.proofs.Passes.{Running}
use Rattle.pz_turn.proofs.resting.to_rest.Given as goal

abbrev pub invariant-passes : goal.invariant-passes
invariant-passes g l = record {
  running : Running (pass_of (g.T.Runnable.runs l.whole) l.items) l.initial.level.grid l.counter (record { level = l.level.grid; commands = l.so_far.commands; changed = l.so_far.changed });
  calm : AreCalmFrom (g.T.Runnable.runs l.whole) l.so_far.commands l.level.grid l.items l.calm_from;
  kept : l.so_far.changed ≡ false → l.level.grid ≡ l.initial.level.grid;
  size : SameSize l.initial.level.grid l.level.grid;
}
