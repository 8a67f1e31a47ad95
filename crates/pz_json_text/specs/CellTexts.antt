-- The text of cells. The first cell with a set of names has the names and their number, a further one only the number.
use Rattle.std.specs.Prelude.{ℕ, ◌+◌, ◌%◌, ◌==◌, List, [], ◌∷◌, ◌++◌, length, take, slice_index_or, fold, flat_map, if◌then◌else◌, Option, Some, None, decimal}
use Rattle.std.specs.List.{join_with_byte, range_with_len}
use Rattle.pz_base.specs.NameSet.{number_in}

-- the text of a set of names, separated by spaces
abbrev pub text_of_names : List (List ℕ) → List ℕ
text_of_names names = join_with_byte 32 names

abbrev pub or_added : List (List ℕ) → List ℕ → Option ℕ → List (List ℕ)
or_added known cell None = known ++ cell ∷ []
or_added known cell (Some k) = known

-- the known sets, and this one if it is new
unfoldable pub with_cell : List (List ℕ) → List ℕ → List (List ℕ)
with_cell known cell = or_added known cell (number_in known cell)

-- each set of the cells once, in the order of first appearance
abbrev pub known_of : List (List ℕ) → List (List ℕ)
known_of cells = fold with_cell [] cells

abbrev pub piece_by_number : List (List ℕ) → List ℕ → Option ℕ → List ℕ
piece_by_number known cell None = cell ++ 58 ∷ [] ++ decimal (length known) ++ 44 ∷ []
piece_by_number known cell (Some k) = decimal k ++ 44 ∷ []

-- a known set is written as its number, a new one as its names, a colon and the next number; a comma ends each
unfoldable pub piece : List (List ℕ) → List ℕ → List ℕ
piece known cell = piece_by_number known cell (number_in known cell)

-- a line break if the number of cells is a multiple of the width
abbrev pub line_end : ℕ → ℕ → List ℕ
line_end width count = if count % width == 0 then 10 ∷ [] else []

abbrev pub cell_text : ℕ → List (List ℕ) → ℕ → List ℕ
cell_text width cells k = piece (known_of (take k cells)) (slice_index_or cells k []) ++ line_end width (k + 1)

-- the text of the first n cells
abbrev pub text_to : ℕ → List (List ℕ) → ℕ → List ℕ
text_to width cells n = flat_map (cell_text width cells) (range_with_len 0 n)

-- texts.sets: the text of cells that have these texts
abbrev pub text_of_cells : ℕ → List (List ℕ) → List ℕ
text_of_cells width cells = text_to width cells (length cells)
