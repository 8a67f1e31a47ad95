use Rattle.std.proofs.Common.{◌-◌, ◌≤◌, length, take}
use Rattle.pz_lines.specs.Writing.{HasWritten}
use Rattle.pz_lines.proofs.output.Output.write_whole.Given as goal

abbrev pub invariant-loop-at : goal.invariant-loop-at
invariant-loop-at g l = record {
  within : l.at ≤ length l.bytes;
  written : HasWritten (take l.at l.bytes) l.fn.self l.self;
}

abbrev pub decreases-loop-at : goal.decreases-loop-at
decreases-loop-at g l = length l.bytes - l.at
