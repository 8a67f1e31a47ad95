-- Two numbers in a byte.
use Rattle.std.specs.Prelude.{ℕ, ◌/◌, ◌%◌, List, [], ◌∷◌}

-- the numbers in bytes: of each the rest by 16, then the quotient
abbrev pub bytes_of_numbers : List ℕ → List ℕ
bytes_of_numbers [] = []
bytes_of_numbers (byte ∷ bytes) = byte % 16 ∷ byte / 16 ∷ bytes_of_numbers bytes
