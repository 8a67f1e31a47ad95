use Rattle.std.proofs.Common.{length, ◌-◌, ◌≤◌, ◌≡◌}
use Rattle.std.specs.Prelude.{take, All}
use Rattle.std.specs.List.{flat_map}
use Rattle.pz_program.specs.Segments.{IsSegmentOf, instances_in}
use Rattle.pz_program.proofs.group.cut.Given as goal

-- the segments so far have the instances before `end`
abbrev pub invariant-segments : goal.invariant-segments
invariant-segments l = record {
  within : l.end ≤ length l.instances;
  each : All (IsSegmentOf l.instances) l.segments.items;
  whole : flat_map (instances_in l.instances) l.segments.items ≡ take l.end l.instances;
}

abbrev pub decreases-segments : goal.decreases-segments
decreases-segments l = length l.instances - l.end
