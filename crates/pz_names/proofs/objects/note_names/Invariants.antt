use Rattle.std.proofs.Common.{◌≡◌, ◌++◌, take, drop}
use Rattle.pz_names.specs.Objects.{has_repeat}
use Rattle.pz_names.proofs.objects.note_names.Given as goal

abbrev pub invariant-loop-name : goal.invariant-loop-name
invariant-loop-name l = record {
  none_yet : has_repeat l.above (drop l.name-index l.names) ≡ has_repeat l.initial.above l.names;
  noted : l.above ≡ l.initial.above ++ take l.name-index l.names;
}
