use Rattle.std.proofs.Common.{◌≡◌, ◌≤◌, ◌-◌, map}
use Rattle.pz_json_text.specs.Labels.{text_at}
use Rattle.pz_json_text.specs.Written.{AreWritten, AreFirsts}
use Rattle.pz_json_text.proofs.draft.write_part.Given as goal

abbrev pub invariant-cells : goal.invariant-cells
invariant-cells l = record {
  from : l.draft.at.cells ≤ l.stop;
  written : AreWritten l.width (map (text_at l.texts) l.labels) l.texts l.draft.at l.draft.json.items l.numbers.items;
  firsts : AreFirsts (map (text_at l.texts) l.labels) l.texts l.draft.at.cells l.draft.firsts.items;
  marks : l.draft.marks ≡ l.fn.draft.marks;
}

abbrev pub decreases-cells : goal.decreases-cells
decreases-cells l = l.stop - l.draft.at.cells
