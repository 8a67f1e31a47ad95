use Rattle.std.proofs.Common.{◌≡◌, [], map, take, drop}
use Rattle.pz_base.specs.Fault.{first_fault}
use Rattle.pz_names.specs.Objects.{object_names, name_line_of, paragraph_at, misnames}
use Rattle.pz_names.proofs.objects.note_paragraphs.Given as goal

abbrev pub invariant-loop-count : goal.invariant-loop-count
invariant-loop-count l = record {
  none_yet : first_fault paragraph_at misnames (take l.count l.paragraphs) (drop l.count l.paragraphs) ≡ first_fault paragraph_at misnames [] l.paragraphs;
  noted : l.names ≡ object_names (map name_line_of (take l.count l.paragraphs));
}
