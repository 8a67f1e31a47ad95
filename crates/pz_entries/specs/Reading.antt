-- What a level text says: for each cell the set of its names.
use Rattle.std.specs.Prelude.{ℕ, ◌==◌, ◌&&◌, ◌||◌, not, nat_lt, List, [], ◌∷◌, ◌++◌, length, filter, slice_get, Bool, false, if◌then◌else◌, Option, Some, None, option_map, option_and_then}
use Rattle.std.specs.List.{slice_split}
use Rattle.std.specs.Str.{all_ascii_digits}
use Rattle.std.specs.Str.Parse.{digits_value}
use Rattle.pz_entries.specs.Names.{name_set}

-- one or more decimal digits
unfoldable pub number_of : List ℕ → Option ℕ
number_of ds = if nat_lt 0 (length ds) && all_ascii_digits ds then Some (digits_value 10 ds) else None

-- a number that is at most `most`
abbrev pub up_to : ℕ → Option ℕ → Option ℕ
up_to most None = None
up_to most (Some n) = if nat_lt most n then None else Some n

-- a number below a count
abbrev pub below : ℕ → Option ℕ → Option ℕ
below count None = None
below count (Some n) = if nat_lt n count then Some n else None

abbrev pub no_line_end : ℕ → Bool
no_line_end b = not ((b == 10) || (b == 13))

-- what stands before and after the last colon
abbrev pub or_cut : ℕ → List ℕ → Option (List ℕ × List ℕ) → Option (List ℕ × List ℕ)
or_cut b bs (Some c) = Some (b ∷ c.0, c.1)
or_cut b bs None = if b == 58 then Some ([], bs) else None

abbrev pub cut_last : List ℕ → Option (List ℕ × List ℕ)
cut_last [] = None
cut_last (b ∷ bs) = or_cut b bs (cut_last bs)

abbrev pub is_number : ℕ → Option ℕ → Bool
is_number n None = false
is_number n (Some k) = k == n

-- a new set has the next number
abbrev pub new_set : List (List (List ℕ)) → List ℕ → Bool → Option (List (List ℕ) × List (List (List ℕ)))
new_set sets names is_next = if is_next then Some (name_set names, sets ++ name_set names ∷ []) else None

abbrev pub known_set : List (List (List ℕ)) → Option ℕ → Option (List (List ℕ) × List (List (List ℕ)))
known_set sets number = option_map (λ set. (set, sets)) (option_and_then (slice_get sets) number)

abbrev pub read_cut : List (List (List ℕ)) → List ℕ → Option (List ℕ × List ℕ) → Option (List (List ℕ) × List (List (List ℕ)))
read_cut sets piece (Some c) = new_set sets c.0 (is_number (length sets) (number_of c.1))
read_cut sets piece None = known_set sets (number_of piece)

-- the set of a piece, and the sets with it
unfoldable pub read_piece : List (List (List ℕ)) → List ℕ → Option (List (List ℕ) × List (List (List ℕ)))
read_piece sets piece = read_cut sets piece (cut_last piece)

abbrev pub read_from : List (List (List ℕ)) → List (List ℕ) → Option (List (List (List ℕ)))
read_from sets [] = Some []
read_from sets (p ∷ ps) = option_and_then (λ r. option_map (λ cells. r.0 ∷ cells) (read_from r.1 ps)) (read_piece sets p)

abbrev pub is_comma : ℕ → Bool
is_comma b = b == 44

-- the pieces, each ended by a comma
abbrev pub all_ended : List (List ℕ) → Option (List (List ℕ))
all_ended [] = None
all_ended (part ∷ []) = if length part == 0 then Some [] else None
all_ended (part ∷ next ∷ parts) = option_map (λ ps. part ∷ ps) (all_ended (next ∷ parts))

-- what the text says after pieces that gave these sets
abbrev pub reading_with : List (List (List ℕ)) → List ℕ → Option (List (List (List ℕ)))
reading_with sets text = option_and_then (read_from sets) (all_ended (slice_split is_comma text))

-- texts.read: the sets of the cells; nothing if the text is no level text
unfoldable pub reading : List ℕ → Option (List (List (List ℕ)))
reading text = reading_with [] (filter no_line_end text)

-- no comma and no line end
abbrev pub plain : ℕ → Bool
plain b = not (is_comma b) && no_line_end b
