use Rattle.std.proofs.Common.{◌≡◌, ◌++◌, drop, length}
use Rattle.pz_names.specs.Meaning.{object_meanings}
use Rattle.pz_names.proofs.meaning.add_objects.Given as goal

abbrev pub invariant-loop-place : goal.invariant-loop-place
invariant-loop-place l =
    l.meanings.items ++ object_meanings l.place (length l.meanings.items) (drop l.place l.objects)
    ≡ l.initial.meanings.items ++ object_meanings 0 (length l.initial.meanings.items) l.objects
