use Rattle.std.proofs.Common.{◌≡◌, ◌≤◌, drop, [], length}
use Rattle.serde_json.specs.View.{view as data_of}
use Rattle.pz_entries.specs.Input.{input_of}
use Rattle.pz_entries.proofs.Gather.{gathered}
use Rattle.pz_entries.proofs.input.read_each.Given as goal

abbrev pub invariant-loop-value : goal.invariant-loop-value
invariant-loop-value l = record {
  few : length l.items.items ≤ l.value-index;
  kept : gathered (λ v. input_of (data_of v)) l.items.items (drop l.value-index l.list) ≡ gathered (λ v. input_of (data_of v)) [] l.list;
}
