use Rattle.std.proofs.Common.{◌≡◌, ◌≤◌, ◌*◌, ◌-◌, length, map}
use Rattle.pz_json_text.specs.declared.draft.TheConstants.{STEP}
use Rattle.pz_json_text.specs.Labels.{text_at}
use Rattle.pz_json_text.specs.Written.{IsBegun}
use Rattle.pz_json_text.proofs.draft.finish.Given as goal

abbrev pub invariant-marks : goal.invariant-marks
invariant-marks l = record {
  begun : IsBegun l.width (map (text_at l.texts) l.labels) l.texts l.draft l.numbers.items;
  mark : l.draft.at.cells ≡ length l.draft.marks.items * STEP;
  from : l.draft.at.cells ≤ l.count * STEP;
  past : l.fn.changed.end ≤ l.count * STEP;
}

abbrev pub decreases-marks : goal.decreases-marks
decreases-marks l = length l.last.marks.items - l.count
