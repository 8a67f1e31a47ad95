-- OBJECTS: its objects, and their names.
use Rattle.std.specs.Prelude.{ℕ, zero, suc, ◌-◌, Bool, false, not, ◌&&◌, ◌||◌, ◌==◌, if◌then◌else◌, nat_lt, nat_le, List, [], ◌∷◌, ◌++◌, length, drop, map, Option, Some, None, Result, Ok, All, ◌<◌}
use Rattle.std.specs.List.{flat_map, list_all}
use Rattle.std.specs.Char.{is_ascii_digit, is_whitespace}
use Rattle.pz_base.specs.Fault.{first_fault, unless}
use Rattle.pz_base.specs.NameSet.{is_name_of}
use Rattle.pz_text.specs.Words.{names_of}
use Rattle.pz_text.specs.declared.line.Line.{Line}
use Rattle.pz_base.specs.declared.fault.Code.{Code}
use Rattle.pz_base.specs.declared.fault.Code.TheVariants as code
use Rattle.pz_base.specs.declared.fault.SourceFault.{SourceFault}
use Rattle.pz_game.specs.Word.{IsWord}
use Rattle.pz_names.specs.declared.name_line.NameLine.{NameLine}
use Rattle.pz_names.specs.declared.objects.Paragraph.{Paragraph}
use Rattle.pz_game.specs.declared.limits.TheConstants.{MOST_OBJECTS}
use Rattle.pz_names.specs.declared.objects.TheConstants.{MOST_NAMES}

-- the names that OBJECTS gives, in the order of first mention
abbrev pub object_names : List NameLine → List (List ℕ)
object_names objects = flat_map (λ line. line.names) objects

-- only white space
abbrev pub is_blank : Line → Bool
is_blank line = list_all is_whitespace line.text

-- a digit or a dot
abbrev pub is_pixel : ℕ → Bool
is_pixel c = c == 46 || is_ascii_digit c

-- only digits and dots
abbrev pub is_sprite_row : Line → Bool
is_sprite_row line = not (is_blank line) && list_all is_pixel line.text

-- objects.sprites: the sprite rows at the front, at most `most` of them
abbrev pub sprite_rows : ℕ → List Line → List Line
sprite_rows most [] = []
sprite_rows most (line ∷ lines) = if is_sprite_row line && nat_lt 0 most then line ∷ sprite_rows (most - 1) lines else []

-- five digits or dots
abbrev pub is_wide : Line → Bool
is_wide row = length row.text == 5

-- none or five rows, of five digits or dots each
abbrev pub is_sprite : List Line → Bool
is_sprite rows = length rows == 0 || (length rows == 5 && list_all is_wide rows)

-- The lines after a name line have the right form: first a line of colours, which may be any words, and then a sprite or none.
abbrev pub is_whole : List Line → Bool
is_whole [] = false
is_whole (colours ∷ lines) = not (is_blank colours) && is_sprite (sprite_rows 5 lines)

-- text.blank-lines: what is left of the lines after a name line, without its colours and its sprite rows
abbrev pub behind_paragraph : List Line → List Line
behind_paragraph [] = []
behind_paragraph (colours ∷ lines) = if is_blank colours then colours ∷ lines else drop (length (sprite_rows 5 lines)) lines

-- objects.names
abbrev pub paragraph_of : Line → List Line → Paragraph
paragraph_of line lines = record { line = record { number = line.number; names = names_of line.text }; is_whole = is_whole lines }

-- The paragraphs of these lines, in at most `most` steps. A line that isn't blank is a name line, and begins a paragraph. Blank
-- lines may stand between paragraphs.
abbrev pub paragraphs_within : ℕ → List Line → List Paragraph
paragraphs_within zero lines = []
paragraphs_within (suc most) [] = []
paragraphs_within (suc most) (line ∷ lines) =
    if is_blank line then paragraphs_within most lines else paragraph_of line lines ∷ paragraphs_within most (behind_paragraph lines)

abbrev pub paragraphs_of : List Line → List Paragraph
paragraphs_of lines = paragraphs_within (length lines) lines

abbrev pub name_line_of : Paragraph → NameLine
name_line_of paragraph = paragraph.line

abbrev pub paragraph_at : Paragraph → ℕ
paragraph_at paragraph = paragraph.line.number

-- checks.objects: one of the names is among those above, or is repeated
abbrev pub has_repeat : List (List ℕ) → List (List ℕ) → Bool
has_repeat above [] = false
has_repeat above (name ∷ names) = is_name_of above name || has_repeat (above ++ name ∷ []) names

-- checks.objects: what is wrong with a paragraph: its form, a name that is there already, or too many objects or names; `count`
-- paragraphs stand above it, and with its own there are `total` names
abbrev pub paragraph_fault : Paragraph → Bool → ℕ → ℕ → Option Code
paragraph_fault paragraph repeats count total =
    if not paragraph.is_whole then Some code.BadObject
    else (if repeats then Some code.Duplicate
    else (if nat_le MOST_OBJECTS count || nat_lt MOST_NAMES total then Some code.TooLarge
    else None))

-- the same, below `count` paragraphs with these names
abbrev pub fault_below : List (List ℕ) → ℕ → Paragraph → Option Code
fault_below above count paragraph = paragraph_fault paragraph (has_repeat above paragraph.line.names) count (length (above ++ paragraph.line.names))

abbrev pub misnames : List Paragraph → Paragraph → Option Code
misnames before paragraph = fault_below (object_names (map name_line_of before)) (length before) paragraph

-- the name line of each object, or the first fault of OBJECTS
abbrev pub objects_of : List Line → Result (List NameLine) SourceFault
objects_of lines = unless (first_fault paragraph_at misnames [] (paragraphs_of lines)) (Ok (map name_line_of (paragraphs_of lines)))

-- a name line has a name, and all its names are words
abbrev pub IsNamed : NameLine → Type 0
IsNamed line = (0 < length line.names) × All IsWord line.names
