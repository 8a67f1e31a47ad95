-- The names that each game needs.
use Rattle.std.specs.Prelude.{ℕ, Bool, true, false, ◌&&◌, if◌then◌else◌, List, Option, Some, None, option_and_then, slice_get, codes}
use Rattle.std.specs.Option.{option_map_or}
use Rattle.pz_base.specs.NameSet.{number_in}
use Rattle.pz_base.specs.declared.fault.SourceFault.{SourceFault}
use Rattle.pz_base.specs.declared.fault.Code.TheVariants as code
use Rattle.pz_game.specs.declared.denotation.Denotation.{Denotation}
use Rattle.pz_game.specs.declared.denotation.Kind.{Kind}
use Rattle.pz_game.specs.declared.denotation.Kind.TheVariants.{Object, Property, Aggregate}

-- an object or a property: a synonym has the kind of what it names
abbrev pub is_single : Kind → Bool
is_single Object = true
is_single Property = true
is_single Aggregate = false

abbrev pub names_single : List (List ℕ) → List Denotation → List ℕ → Bool
names_single names values name = option_map_or (λ d. is_single d.kind) (option_and_then (slice_get values) (number_in names name)) false

-- checks.missing: the fault if one of the two names that each game needs is not there or is an aggregate
abbrev pub fault_of_needs : List (List ℕ) → List Denotation → Option SourceFault
fault_of_needs names values =
    if names_single names values (codes "background") && names_single names values (codes "player") then None
    else Some (record { code = code.Missing; line = 0 })
