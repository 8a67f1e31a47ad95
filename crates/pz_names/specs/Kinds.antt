-- The kinds of names, and where they don't fit together.
use Rattle.std.specs.Prelude.{ℕ, Bool, true, false, if◌then◌else◌, List, Option, Some, None, option_map, slice_get}
use Rattle.std.specs.List.{list_any}
use Rattle.pz_base.specs.declared.fault.Code.{Code}
use Rattle.pz_base.specs.declared.fault.Code.TheVariants as code
use Rattle.pz_names.specs.Meaning.{number_or_end}
use Rattle.pz_game.specs.declared.denotation.Kind.{Kind}
use Rattle.pz_game.specs.declared.denotation.Kind.TheVariants.{Object, Property, Aggregate}
use Rattle.pz_game.specs.declared.denotation.Denotation.{Denotation}
use Rattle.pz_names.specs.declared.legend.Said.{Said}
use Rattle.pz_names.specs.declared.legend.Said.TheVariants.{Same, AllOf, AnyOf}
use Rattle.pz_names.specs.declared.legend.Definition.{Definition}

-- the kind of a name, by what each name denotes
abbrev pub kind_in : List (List ℕ) → List Denotation → List ℕ → Option Kind
kind_in names values name = option_map (λ d. d.kind) (slice_get values (number_or_end names name))

abbrev pub is_of_kind : Kind → Option Kind → Bool
is_of_kind Object (Some Object) = true
is_of_kind Property (Some Property) = true
is_of_kind Aggregate (Some Aggregate) = true
is_of_kind kind found = false

-- a property in an aggregate, or an aggregate in a property
abbrev pub is_mixed : (List ℕ → Option Kind) → Said → Bool
is_mixed kind_of (Same name) = false
is_mixed kind_of (AllOf parts) = list_any (λ part. is_of_kind Property (kind_of part)) parts
is_mixed kind_of (AnyOf parts) = list_any (λ part. is_of_kind Aggregate (kind_of part)) parts

-- checks.mixed
abbrev pub mixes : (List ℕ → Option Kind) → List Definition → Definition → Option Code
mixes kind_of before definition = if is_mixed kind_of definition.said then Some code.Mixed else None
