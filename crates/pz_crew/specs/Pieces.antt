-- What each session shows, piece by piece.
use Rattle.std.specs.Prelude.{ℕ, List, [], slice_index_or}

-- the pieces of the session of this number
abbrev pub pieces_at : {T : Type 0} → List (List T) → ℕ → List T
pieces_at sessions number = slice_index_or sessions number []
