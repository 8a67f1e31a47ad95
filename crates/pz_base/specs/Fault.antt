-- The faults of a source: which one it has if several checks name lines.
use Rattle.std.specs.Prelude.{ℕ, List, [], ◌∷◌, ◌++◌, Option, Some, None, Result, Ok, Err}
use Rattle.std.specs.Option.{option_map_or}
use Rattle.pz_base.specs.declared.fault.Code.{Code}
use Rattle.pz_base.specs.declared.fault.SourceFault.{SourceFault}

-- A check reads things that stand at lines, from the top. `names before x` is the code that it gives to the line of x, which
-- stands below `before`: the first that applies of the codes listed for one line. The fault of the check is the first code that
-- it gives, with its line.
abbrev pub first_fault : {A : Type 0} → (A → ℕ) → (List A → A → Option Code) → List A → List A → Option SourceFault
first_fault at names before [] = None
first_fault at names before (x ∷ xs) =
    option_map_or (λ code. Some (record { code = code; line = at x })) (names before x) (first_fault at names (before ++ x ∷ []) xs)

-- the fault of two checks: the first check goes before, wherever their lines stand
abbrev pub or_else : Option SourceFault → Option SourceFault → Option SourceFault
or_else None later = later
or_else (Some fault) later = Some fault

-- what is read if a check names no line, and else its fault
abbrev pub unless : {A : Type 0} → Option SourceFault → Result A SourceFault → Result A SourceFault
unless None later = later
unless (Some fault) later = Err fault

-- what is read after something else, or else the fault of that
abbrev pub and_then : {A B : Type 0} → (A → Result B SourceFault) → Result A SourceFault → Result B SourceFault
and_then next (Ok x) = next x
and_then next (Err fault) = Err fault
