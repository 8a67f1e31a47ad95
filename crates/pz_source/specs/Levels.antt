-- LEVELS: its entries, and the cells of each level.
use Rattle.std.specs.Prelude.{ℕ, zero, suc, ◌*◌, Bool, true, false, not, ◌||◌, if◌then◌else◌, nat_lt, nat_le, List, [], ◌∷◌, ◌++◌, length, map, take, drop, get_or, Option, Some, None, option_and_then, slice_get, Result, Ok, Err, codes}
use Rattle.std.specs.List.{list_any, flat_map, enumerate_from}
use Rattle.std.specs.Option.{option_map_or}
use Rattle.pz_base.specs.Fault.{and_then}
use Rattle.pz_text.specs.Heading.{begins_with_word}
use Rattle.pz_base.specs.Name.{name_of}
use Rattle.pz_base.specs.NameSet.{number_in}
use Rattle.pz_text.specs.declared.line.Line.{Line}
use Rattle.pz_base.specs.declared.fault.SourceFault.{SourceFault}
use Rattle.pz_base.specs.declared.fault.Code.TheVariants as code
use Rattle.pz_names.specs.Objects.{is_blank}
use Rattle.pz_base.specs.Each.{each_ok, all_some}
use Rattle.pz_game.specs.Level.{is_playable}
use Rattle.pz_game.specs.declared.denotation.Denotation.{Denotation}
use Rattle.pz_game.specs.declared.denotation.Kind.{Kind}
use Rattle.pz_game.specs.declared.denotation.Kind.TheVariants.{Object, Property, Aggregate}
use Rattle.pz_game.specs.declared.limits.TheConstants.{MOST_SIDE, MOST_CELLS}
use Rattle.pz_source.specs.declared.levels.TheConstants.{MOST_ENTRIES}
use Rattle.pz_game.specs.declared.level.LevelEntry.{LevelEntry}
use Rattle.pz_game.specs.declared.level.LevelEntry.TheVariants.{Message, Level}

abbrev pub is_message : Line → Bool
is_message line = begins_with_word line.text (codes "message")

-- the rows of a level that ends here, if there are any
abbrev pub rows_if_any : List Line → List (List Line)
rows_if_any [] = []
rows_if_any (row ∷ rows) = (row ∷ rows) ∷ []

-- text.blank-lines, levels.entries: the entries, each with its lines; `rows` are those of a level that is still open, and a
-- blank line or a message ends it
abbrev pub entries_of : List Line → List Line → List (List Line)
entries_of rows [] = rows_if_any rows
entries_of rows (line ∷ lines) =
    if is_blank line then rows_if_any rows ++ entries_of [] lines
    else (if is_message line then rows_if_any rows ++ (line ∷ []) ∷ entries_of [] lines
    else entries_of (rows ++ line ∷ []) lines)

-- the lines of an entry: it has one, and the first isn't blank
abbrev pub is_entry : List Line → Bool
is_entry [] = false
is_entry (first ∷ rest) = not (is_blank first)

-- a kind that draws something: a property doesn't
abbrev pub draws : Kind → Bool
draws Object = true
draws Aggregate = true
draws Property = false

-- levels.glyphs: the number of the name that a character stands for, if it draws something
abbrev pub glyph_of : List (List ℕ) → List Denotation → ℕ → Option ℕ
glyph_of names values c =
    option_and_then (λ number. option_and_then (λ d. if draws d.kind then Some number else None) (slice_get values number)) (number_in names (name_of (c ∷ [])))

-- the numbers of the glyphs of a row, if each draws something
abbrev pub glyphs_of : (ℕ → Option ℕ) → List ℕ → Option (List ℕ)
glyphs_of glyph row = all_some (map glyph row)

-- levels.short-rows: a row of n cells: the numbers in order, then the last of them again and again
abbrev pub row_of_length : ℕ → ℕ → List ℕ → List ℕ
row_of_length zero last row = []
row_of_length (suc n) last row = get_or row 0 last ∷ row_of_length n (get_or row 0 last) (drop 1 row)

-- levels.long-rows: the cells of a row: a longer row is cut, a shorter one filled
abbrev pub row_of : (ℕ → Option ℕ) → ℕ → Line → Result (List ℕ) SourceFault
row_of glyph width line =
    option_map_or (λ row. Ok (row_of_length width 0 row)) (glyphs_of glyph (take width line.text))
    (Err (record { code = code.BadGlyph; line = line.number }))

-- the cells of the rows of a level
unfoldable pub rows_of : (ℕ → Option ℕ) → ℕ → List Line → Result (List ℕ) SourceFault
rows_of glyph width lines = and_then (λ rows. Ok (flat_map (λ row. row) rows)) (each_ok (map (row_of glyph width) lines))

abbrev pub is_too_large : ℕ → ℕ → Bool
is_too_large width height = nat_lt MOST_SIDE width || nat_lt MOST_SIDE height || nat_lt MOST_CELLS (width * height)

-- an entry with `above` entries above it: the 1,025th and one that is too large are faults at its first line
abbrev pub entry_of : (ℕ → Option ℕ) → ℕ → List Line → Result LevelEntry SourceFault
entry_of glyph above [] = Ok Message
entry_of glyph above (first ∷ rest) =
    if nat_le MOST_ENTRIES above then Err (record { code = code.TooLarge; line = first.number })
    else (if is_message first then Ok Message
    else (if is_too_large (length first.text) (length (first ∷ rest)) then Err (record { code = code.TooLarge; line = first.number })
    else and_then (λ cells. Ok (Level (record { width = length first.text; height = length (first ∷ rest); cells = cells })))
    (rows_of glyph (length first.text) (first ∷ rest))))

-- the entries, each by the number of those above it and its lines
abbrev pub read_entries : (ℕ → Option ℕ) → List (List Line) → Result (List LevelEntry) SourceFault
read_entries glyph entries = each_ok (map (λ entry. entry_of glyph entry.0 entry.1) (enumerate_from 0 entries))

-- checks.levels: the entries of LEVELS; one of them must be a level
abbrev pub levels_of : (ℕ → Option ℕ) → List Line → Result (List LevelEntry) SourceFault
levels_of glyph lines =
    and_then (λ entries. if list_any is_playable entries then Ok entries else Err (record { code = code.NoLevel; line = 0 }))
    (read_entries glyph (entries_of [] lines))
