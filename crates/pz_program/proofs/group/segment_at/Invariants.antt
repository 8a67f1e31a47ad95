use Rattle.std.proofs.Common.{length, ◌-◌, ◌≤◌}
use Rattle.std.specs.Prelude.{take, drop, All}
use Rattle.pz_program.specs.Segments.{IsLeftOut}
use Rattle.pz_program.proofs.group.segment_at.Given as goal

-- the instances so far are left out without what they ask for
abbrev pub invariant-instances : goal.invariant-instances
invariant-instances l = record {
  from : l.initial.start ≤ l.end;
  within : l.end ≤ length l.instances;
  told : All (IsLeftOut l.asked) (take (l.end - l.initial.start) (drop l.initial.start l.instances));
}

abbrev pub decreases-instances : goal.decreases-instances
decreases-instances l = length l.instances - l.end
