use Rattle.std.proofs.Common.{◌≡◌, ◌++◌, map, drop}
use Rattle.pz_names.specs.Meaning.{meaning_by}
use Rattle.pz_names.proofs.meaning.add_definitions.Given as goal

abbrev pub invariant-loop-definition : goal.invariant-loop-definition
invariant-loop-definition l =
    l.meanings.items ++ map (λ d. meaning_by l.names d.said) (drop l.definition-index l.definitions)
    ≡ l.initial.meanings.items ++ map (λ d. meaning_by l.names d.said) l.definitions
