use Rattle.std.proofs.Common.{◌≡◌, ◌+◌, ◌*◌, ◌-◌, ◌≤◌, length, map, take}
use Rattle.pz_json_text.specs.CellTexts.{known_of}
use Rattle.pz_json_text.specs.Labels.{text_at}
use Rattle.pz_json_text.specs.Written.{AreWritten}
use Rattle.pz_json_text.proofs.escaped.write_known.Given as goal

abbrev pub invariant-cells : goal.invariant-cells
invariant-cells l = record {
  room : l.at.end + 5 * (l.stop - l.at.cells) ≤ length l.json;
  onward : l.fn.from.cells ≤ l.at.cells;
  stop : l.at.cells ≤ l.stop;
  written : AreWritten l.width (map (text_at l.texts) l.labels) l.texts l.at l.json l.numbers;
  same : known_of (take l.at.cells (map (text_at l.texts) l.labels)) ≡ known_of (take l.fn.from.cells (map (text_at l.texts) l.labels));
}

abbrev pub decreases-cells : goal.decreases-cells
decreases-cells l = l.stop - l.at.cells
