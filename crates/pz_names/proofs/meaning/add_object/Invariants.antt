use Rattle.std.proofs.Common.{◌≡◌, ◌++◌, map, drop}
use Rattle.pz_names.specs.declared.meaning.Meaning.TheVariants.{Itself}
use Rattle.pz_names.proofs.meaning.add_object.Given as goal

abbrev pub invariant-loop-name : goal.invariant-loop-name
invariant-loop-name l = l.meanings.items ++ map (λ name. Itself l.place l.first) (drop l._name-index l.names) ≡ l.initial.meanings.items ++ map (λ name. Itself l.place l.first) l.names
