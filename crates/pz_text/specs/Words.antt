-- The words of a line.
use Rattle.std.specs.Prelude.{ℕ, not, ◌==◌, List, length, filter, map}
use Rattle.std.specs.List.{slice_split}
use Rattle.std.specs.Char.{is_whitespace}
use Rattle.pz_base.specs.Name.{name_of}

-- text.words: the words of a line, separated by any white space of Unicode
abbrev pub words : List ℕ → List (List ℕ)
words line = filter (λ word. not (length word == 0)) (slice_split is_whitespace line)

-- the words of a line, folded to names
abbrev pub names_of : List ℕ → List (List ℕ)
names_of line = map name_of (words line)
