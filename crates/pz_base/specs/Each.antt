-- Things that are read one by one.
use Rattle.std.specs.Prelude.{List, [], ◌∷◌, Option, Some, option_and_then, option_map, Result, Ok}
use Rattle.pz_base.specs.Fault.{and_then}
use Rattle.pz_base.specs.declared.fault.SourceFault.{SourceFault}

-- the values of all, or the first fault
abbrev pub each_ok : {A : Type 0} → List (Result A SourceFault) → Result (List A) SourceFault
each_ok [] = Ok []
each_ok (r ∷ rs) = and_then (λ x. and_then (λ xs. Ok (x ∷ xs)) (each_ok rs)) r

-- the values of all, if each is there
abbrev pub all_some : {A : Type 0} → List (Option A) → Option (List A)
all_some [] = Some []
all_some (o ∷ os) = option_and_then (λ x. option_map (λ xs. x ∷ xs) (all_some os)) o
