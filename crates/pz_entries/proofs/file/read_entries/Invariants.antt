use Rattle.std.proofs.Common.{◌≡◌, map, drop, length}
use Rattle.serde_json.specs.View.{view as data_of}
use Rattle.pz_entries.specs.File.{entries_from}
use Rattle.pz_entries.proofs.Entries.{ending}
use Rattle.pz_entries.proofs.file.read_entries.Given as goal

abbrev pub invariant-loop-number : goal.invariant-loop-number
invariant-loop-number l = record {
  count : length l.entries.items ≡ l.number;
  whole : ending l.number l.entries.items (drop l.number l.list) ≡ entries_from 0 (map data_of l.list);
}
