-- What sessions showed, told in pieces.
use Rattle.std.specs.Prelude.{ℕ, suc, List, [], ◌∷◌}
use Rattle.pz_case.specs.declared.recording.Record.{Record}

-- the pieces of each session, if `pieces` tells what the session of a number showed; they are numbered from this number on
abbrev pub told_from : {T : Type 0} → (ℕ → Record → List T) → ℕ → List Record → List (List T)
told_from pieces number [] = []
told_from pieces number (shown ∷ later) = pieces number shown ∷ told_from pieces (suc number) later

-- a recording, told in pieces: every session in its order, none left out
abbrev pub told : {T : Type 0} → (ℕ → Record → List T) → List Record → List (List T)
told pieces recording = told_from pieces 0 recording
