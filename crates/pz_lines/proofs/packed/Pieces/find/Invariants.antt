use Rattle.std.proofs.Common.{◌-◌, ◌≤◌}
use Rattle.pz_lines.specs.Packed.{AreChanges}
use Rattle.pz_lines.proofs.packed.Pieces.find.Given as goal

abbrev pub invariant-loop-at : goal.invariant-loop-at
invariant-loop-at l = record {
  within : l.at ≤ l.end;
  changes : AreChanges l.last l.line l.at l.self.places.items l.self.bytes.items;
}

abbrev pub decreases-loop-at : goal.decreases-loop-at
decreases-loop-at l = l.end - l.at
