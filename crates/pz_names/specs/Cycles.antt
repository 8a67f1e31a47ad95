-- Names that reach themselves.
use Rattle.std.specs.Prelude.{◌≡◌, ℕ, zero, suc, ◌+◌, ◌==◌, ◌||◌, Bool, true, false, if◌then◌else◌, List, [], ◌∷◌, ◌++◌, length, Option, Some, None, slice_get}
use Rattle.std.specs.List.{list_any}
use Rattle.std.specs.Option.{option_map_or}
use Rattle.pz_names.specs.Meaning.{parts_at}
use Rattle.pz_names.specs.Denotation.{with_mentions}
use Rattle.pz_names.specs.declared.meaning.Meaning.{Meaning}
use Rattle.pz_names.specs.declared.legend.Definition.{Definition}
use Rattle.pz_base.specs.declared.fault.Code.{Code}
use Rattle.pz_base.specs.declared.fault.Code.TheVariants as code

-- the lines lead from a name to another, in at least one step and at most this many
unfoldable pub reaches : ℕ → List Meaning → ℕ → ℕ → Bool
reaches zero meanings from to = false
reaches (suc n) meanings from to = list_any (λ part. part == to || reaches n meanings part to) (parts_at meanings from)

-- checks.circles: a name that reaches itself
abbrev pub is_on_cycle : List Meaning → ℕ → Bool
is_on_cycle meanings number = reaches (length meanings) meanings number number

-- each number is among the parts of the one before it
unfoldable pub IsChain : List Meaning → List ℕ → Type 0
IsChain meanings [] = Unit {0}
IsChain meanings (x ∷ []) = Unit {0}
IsChain meanings (x ∷ y ∷ rest) = (list_any (λ p. p == y) (parts_at meanings x) ≡ true) × IsChain meanings (y ∷ rest)

-- some chain of definitions leads from a name to another
abbrev pub LeadsTo : List Meaning → ℕ → ℕ → Type 0
LeadsTo meanings from to = (between : List ℕ) × IsChain meanings (from ∷ (between ++ to ∷ []))

-- the fault of a line whose name reaches itself; the lines' names are numbered from `first` on
abbrev pub reaches_itself : ℕ → List Meaning → List Definition → Definition → Option Code
reaches_itself first meanings before definition = if is_on_cycle meanings (first + length before) then Some code.BadLegend else None

-- the names found after a look at the one found at this place: its parts are added, and repeats dropped
abbrev pub found_after : List Meaning → ℕ → List ℕ → List ℕ
found_after meanings place found = option_map_or (λ next. with_mentions found (parts_at meanings next)) (slice_get found place) found
