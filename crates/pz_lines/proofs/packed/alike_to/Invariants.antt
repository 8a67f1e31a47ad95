use Rattle.std.proofs.Common.{◌≤◌, ◌-◌, ℕ, List}
use Rattle.pz_lines.specs.Packed.{AreChanges}
use Rattle.pz_lines.proofs.packed.alike_to.Given as goal

abbrev pub invariant-loop-at : goal.invariant-loop-at
invariant-loop-at l = record {
  onward : l.from ≤ l.at;
  within : l.at ≤ l.end;
  alike : (places bytes : List ℕ) → AreChanges l.last l.line l.from places bytes → AreChanges l.last l.line l.at places bytes;
}

abbrev pub decreases-loop-at : goal.decreases-loop-at
decreases-loop-at l = l.end - l.at
