-- Worked lines that are kept packed.
use Rattle.std.proofs.Common.{◌≡◌, ℕ, [], ◌∷◌, ◌++◌, refl}
use Rattle.std.specs.Prelude.{codes}
use Rattle.pz_lines.specs.declared.packed.Part.{Part}
use Rattle.pz_lines.specs.Packed.{line_of, with_bytes, lines_of_parts}

abbrev part : ℕ → ℕ → ℕ → ℕ → ℕ → Part
part place changes from own front = record { place = place; changes = changes; from = from; own = own; front = front }

-- a first line is its own
first_line : lines_of_parts [] (codes "ab") [] (part 0 0 0 2 0 ∷ []) ≡ codes "ab"
unfolding line_of
first_line = refl

-- the second line changes a chunk of the first eight bytes, and has its own tail
second_line : lines_of_parts (0 ∷ []) (codes "one two six" ++ codes "one tWo six") [] (part 0 0 0 11 0 ∷ part 0 1 11 11 8 ∷ []) ≡ codes "one two six" ++ codes "one tWo six"
unfolding line_of with_bytes
second_line = refl

-- a line may be longer than the line before it, or shorter, or change its second chunk
longer_line : lines_of_parts [] (codes "one two six" ++ codes "seven") [] (part 0 0 0 11 0 ∷ part 0 0 11 5 8 ∷ []) ≡ codes "one two six" ++ codes "one two seven"
unfolding line_of
longer_line = refl

shorter_line : lines_of_parts [] (codes "one two six") [] (part 0 0 0 11 0 ∷ part 0 0 11 0 3 ∷ []) ≡ codes "one two six" ++ codes "one"
unfolding line_of
shorter_line = refl

second_chunk : lines_of_parts (8 ∷ []) (codes "0123456789abcdef" ++ codes "89ABCDEF!") [] (part 0 0 0 16 0 ∷ part 0 1 16 9 16 ∷ []) ≡ codes "0123456789abcdef" ++ codes "0123456789ABCDEF!"
unfolding line_of with_bytes
second_chunk = refl
