use Rattle.pz_turn.proofs.Common.{SameSize}
use Rattle.pz_turn.proofs.Passes.{Passing}
use Rattle.pz_turn.proofs.resting.pass_after.Given as goal

abbrev pub invariant-loop-index : goal.invariant-loop-index
invariant-loop-index g l = record {
  passing : Passing (g.T.Runnable.runs l.whole) l.items l.initial.level.grid l.calm_from l.index (record { level = l.level.grid; commands = l.so_far.commands; changed = l.so_far.changed }) l.first_calm;
  size : SameSize l.initial.level.grid l.level.grid;
}
