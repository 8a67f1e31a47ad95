use Rattle.std.proofs.Common.{◌≡◌, ◌<◌, ◌≤◌, ◌%◌, length, take, map, string_bytes}
use Rattle.pz_base.specs.NameSet.{number_in}
use Rattle.pz_json_text.specs.Labels.{text_at}
use Rattle.pz_json_text.specs.CellTexts.{known_of, text_to}
use Rattle.pz_json_text.proofs.plain.plain_text.Given as goal

abbrev pub invariant-loop-cell : goal.invariant-loop-cell
invariant-loop-cell l = record {
  text : string_bytes l.text ≡ text_to l.width (map (text_at l.texts) l.labels) l.cell-index;
  numbers : l.numbers.items ≡ map (number_in (known_of (take l.cell-index (map (text_at l.texts) l.labels)))) l.texts;
  count : l.count ≡ length (known_of (take l.cell-index (map (text_at l.texts) l.labels)));
  few : l.count ≤ l.cell-index;
  column : l.column ≡ l.cell-index % l.width;
  within : l.column < l.width;
}
