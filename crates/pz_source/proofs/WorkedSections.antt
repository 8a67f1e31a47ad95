-- Worked cases of the names that each game needs, of COLLISIONLAYERS and of LEVELS.
use Rattle.std.proofs.Common.{◌≡◌, ℕ, suc, true, false, List, [], ◌∷◌, ◌++◌, Some, None, Ok, Err, refl}
use Rattle.std.specs.Prelude.{codes, map, replicate}
use Rattle.std.specs.Char.{encode_utf8}
use Rattle.pz_base.specs.declared.fault.Code.TheVariants as code
use Rattle.pz_text.specs.declared.line.Line.{Line}
use Rattle.pz_text.specs.declared.line.Section.{Section}
use Rattle.pz_text.specs.declared.line.Section.TheVariants as section
use Rattle.pz_game.specs.declared.denotation.Denotation.{Denotation}
use Rattle.pz_game.specs.declared.denotation.Kind.{Kind}
use Rattle.pz_game.specs.declared.denotation.Kind.TheVariants.{Object, Property, Aggregate}
use Rattle.pz_names.specs.declared.name_line.NameLine.{NameLine}
use Rattle.pz_source.specs.Layers.{layer_names, layer_lines, layer_fault, fault_of_layers, layers_of}
use Rattle.pz_game.specs.Level.{is_playable}
use Rattle.pz_source.specs.Levels.{entries_of, glyph_of, is_too_large, entry_of, levels_of, rows_of}
use Rattle.pz_source.specs.Missing.{fault_of_needs}
use Rattle.pz_game.specs.declared.level.LevelEntry.TheVariants.{Message, Level}

-- lines of a section, numbered
abbrev lines_at : Section → ℕ → List (List ℕ) → List Line
lines_at section number [] = []
lines_at section number (text ∷ texts) =
    record { number = number; section = section; is_heading = false; text = text } ∷ lines_at section (suc number) texts

abbrev denotes : Kind → List ℕ → ℕ → Denotation
denotes kind members number = record { kind = kind; members = members; number = number }

abbrev named : ℕ → List ℕ → NameLine
named number name = record { number = number; names = name ∷ [] }

-- the names that each game needs

abbrev needed : List (List ℕ)
needed = codes "grass" ∷ codes "background" ∷ codes "player" ∷ []

-- the background may be a synonym of an object, and the player a property
needs_are_met : fault_of_needs needed (denotes Object (0 ∷ []) 0 ∷ denotes Object (0 ∷ []) 0 ∷ denotes Property (0 ∷ []) 2 ∷ []) ≡ None
needs_are_met = refl

-- an aggregate is no player
aggregate_as_player : fault_of_needs needed (denotes Object (0 ∷ []) 0 ∷ denotes Object (0 ∷ []) 0 ∷ denotes Aggregate (0 ∷ []) 2 ∷ [])
    ≡ Some (record { code = code.Missing; line = 0 })
aggregate_as_player = refl

-- a player alone is not enough
no_background : fault_of_needs (codes "player" ∷ []) (denotes Object (0 ∷ []) 0 ∷ []) ≡ Some (record { code = code.Missing; line = 0 })
no_background = refl

-- COLLISIONLAYERS

-- three objects; thing is a property of crate and wall, both an aggregate of them
abbrev objects : List NameLine
objects = named 3 (codes "wall") ∷ named 6 (codes "crate") ∷ named 9 (codes "player") ∷ []

abbrev names : List (List ℕ)
names = codes "wall" ∷ codes "crate" ∷ codes "player" ∷ codes "thing" ∷ codes "both" ∷ []

abbrev values : List Denotation
values = denotes Object (0 ∷ []) 0 ∷ denotes Object (1 ∷ []) 1 ∷ denotes Object (2 ∷ []) 2
    ∷ denotes Property (1 ∷ 0 ∷ []) 3 ∷ denotes Aggregate (1 ∷ 0 ∷ []) 4 ∷ []

-- commas and white space separate names alike, in any number
parted : layer_names (codes "Wall,crate ,, Player,") ≡ codes "wall" ∷ codes "crate" ∷ codes "player" ∷ []
unfolding encode_utf8
parted = refl

-- a line of commas alone is no layer
commas_alone : layer_lines (lines_at section.Layers 20 (codes ", ," ∷ codes "wall" ∷ [] ∷ [])) ≡ named 21 (codes "wall") ∷ []
unfolding encode_utf8
commas_alone = refl

-- a property stands for its members, and the last layer has the object
last_layer_wins : layers_of objects names values (lines_at section.Layers 20 (codes "wall, player" ∷ codes "thing" ∷ codes "crate" ∷ []))
    ≡ 1 ∷ 2 ∷ 0 ∷ []
unfolding encode_utf8
last_layer_wins = refl

-- a layer counts even if a later one takes its only object: wall and crate are in layer 1
emptied_layer_counts : layers_of objects names values (lines_at section.Layers 20 (codes "wall" ∷ codes "thing player" ∷ [])) ≡ 1 ∷ 1 ∷ 1 ∷ []
unfolding encode_utf8
emptied_layer_counts = refl

-- an aggregate is in no layer
aggregate_in_a_layer : fault_of_layers objects names values (lines_at section.Layers 20 (codes "thing, player" ∷ codes "player, both" ∷ []))
    ≡ Some (record { code = code.Mixed; line = 21 })
unfolding encode_utf8
aggregate_in_a_layer = refl

-- on one line an unknown name goes before an aggregate
unknown_before_mixed : fault_of_layers objects names values (lines_at section.Layers 20 (codes "both, ghost" ∷ []))
    ≡ Some (record { code = code.Unknown; line = 20 })
unfolding encode_utf8
unknown_before_mixed = refl

-- an object in no layer, at its name line
in_no_layer : fault_of_layers objects names values (lines_at section.Layers 20 (codes "wall" ∷ codes "player" ∷ []))
    ≡ Some (record { code = code.NoLayer; line = 6 })
unfolding encode_utf8
in_no_layer = refl

-- the lines of the layers go before the objects, although these stand above
layers_before_objects : fault_of_layers objects names values (lines_at section.Layers 20 (codes "wall" ∷ codes "ghost" ∷ []))
    ≡ Some (record { code = code.Unknown; line = 21 })
unfolding encode_utf8
layers_before_objects = refl

-- the hundredth layer is the last that may be
layer_100 : layer_fault names values 99 (codes "wall" ∷ []) ≡ None
layer_100 = refl

layer_101 : layer_fault names values 100 (codes "wall" ∷ []) ≡ Some code.TooLarge
layer_101 = refl

-- LEVELS

abbrev numbers_of : List (List Line) → List (List ℕ)
numbers_of entries = map (map (λ (line : Line). line.number)) entries

-- a message ends a level and is an entry of its own; further blank lines separate nothing
entries : numbers_of (entries_of []
    (lines_at section.Levels 30 (codes "ab" ∷ codes "cd" ∷ codes "MESSAGE hi" ∷ codes "e" ∷ [] ∷ [] ∷ codes "f" ∷ [])))
    ≡ (30 ∷ 31 ∷ []) ∷ (32 ∷ []) ∷ (33 ∷ []) ∷ (36 ∷ []) ∷ []
entries = refl

-- a row whose first word only begins so is no message
messages_as_a_row : numbers_of (entries_of [] (lines_at section.Levels 30 (codes "ab" ∷ codes "messages" ∷ codes "cd" ∷ [])))
    ≡ (30 ∷ 31 ∷ 32 ∷ []) ∷ []
messages_as_a_row = refl

-- a message is no level to play
messages_are_not_played : map is_playable (Message ∷ Level (record { width = 1; height = 1; cells = 0 ∷ [] }) ∷ Message ∷ [])
    ≡ false ∷ true ∷ false ∷ []
messages_are_not_played = refl

-- two objects, an aggregate, a property, a synonym of the second object, and a name of more than one character
abbrev glyph_names : List (List ℕ)
glyph_names = codes "." ∷ codes "p" ∷ codes "@" ∷ codes "s" ∷ codes "h" ∷ codes "long" ∷ []

abbrev glyph_values : List Denotation
glyph_values = denotes Object (0 ∷ []) 0 ∷ denotes Object (1 ∷ []) 1 ∷ denotes Aggregate (0 ∷ 1 ∷ []) 2 ∷ denotes Property (0 ∷ 1 ∷ []) 3
    ∷ denotes Object (1 ∷ []) 1 ∷ denotes Object (2 ∷ []) 5 ∷ []

-- an object, an aggregate and a synonym draw, in small and capital letters; a property and what is no name don't
glyphs : map (glyph_of glyph_names glyph_values) (codes ".@hHsx") ≡ Some 0 ∷ Some 2 ∷ Some 4 ∷ Some 4 ∷ None ∷ None ∷ []
unfolding encode_utf8
glyphs = refl

-- a glyph is a character and not a byte, and only the letters of ASCII are folded: e with an accent, small and capital
accented_glyphs : map (glyph_of ((195 ∷ 169 ∷ []) ∷ []) (denotes Object (0 ∷ []) 0 ∷ [])) (233 ∷ 201 ∷ []) ≡ Some 0 ∷ None ∷ []
unfolding encode_utf8
accented_glyphs = refl

-- the first row has the width; a shorter row is filled with its last glyph, and what is cut off a longer one isn't read
filled_and_cut : levels_of (glyph_of glyph_names glyph_values) (lines_at section.Levels 30 (codes "..p" ∷ codes ".h" ∷ codes "@..?" ∷ []))
    ≡ Ok (Level (record { width = 3; height = 3; cells = 0 ∷ 0 ∷ 1 ∷ 0 ∷ 4 ∷ 4 ∷ 2 ∷ 0 ∷ 0 ∷ [] }) ∷ [])
unfolding encode_utf8 rows_of
filled_and_cut = refl

-- white space inside a row is no glyph
space_in_a_row : levels_of (glyph_of glyph_names glyph_values) (lines_at section.Levels 30 (codes "..." ∷ codes ". p" ∷ []))
    ≡ Err (record { code = code.BadGlyph; line = 31 })
unfolding encode_utf8 rows_of
space_in_a_row = refl

-- a message is an entry, but a source of messages alone has no level
after_a_message : levels_of (glyph_of glyph_names glyph_values) (lines_at section.Levels 30 (codes "message ?" ∷ codes "p" ∷ []))
    ≡ Ok (Message ∷ Level (record { width = 1; height = 1; cells = 1 ∷ [] }) ∷ [])
unfolding encode_utf8 rows_of
after_a_message = refl

messages_alone : levels_of (glyph_of glyph_names glyph_values) (lines_at section.Levels 30 (codes "message on" ∷ [] ∷ codes "message" ∷ []))
    ≡ Err (record { code = code.NoLevel; line = 0 })
unfolding encode_utf8
messages_alone = refl

-- a first row that is too long goes before a glyph in it that is none
too_large_before_bad : levels_of (glyph_of glyph_names glyph_values) (lines_at section.Levels 30 ((codes "?" ++ replicate 255 46) ∷ []))
    ≡ Err (record { code = code.TooLarge; line = 30 })
unfolding encode_utf8
too_large_before_bad = refl

-- the lesser line decides
bad_above_too_large : levels_of (glyph_of glyph_names glyph_values) (lines_at section.Levels 30 (codes "?" ∷ [] ∷ replicate 256 46 ∷ []))
    ≡ Err (record { code = code.BadGlyph; line = 30 })
unfolding encode_utf8 rows_of
bad_above_too_large = refl

-- the sides 255 by 1 and 128 by 128 are small enough, 1 by 256 and 128 by 129 too large
sizes : is_too_large 255 1 ∷ is_too_large 128 128 ∷ is_too_large 1 256 ∷ is_too_large 128 129 ∷ [] ≡ false ∷ false ∷ true ∷ true ∷ []
sizes = refl

-- messages count as entries: the 1,024th is the last that may be
entry_1024 : entry_of (glyph_of glyph_names glyph_values) 1_023 (lines_at section.Levels 30 (codes "message" ∷ [])) ≡ Ok Message
entry_1024 = refl

entry_1025 : entry_of (glyph_of glyph_names glyph_values) 1_024 (lines_at section.Levels 30 (codes "message" ∷ []))
    ≡ Err (record { code = code.TooLarge; line = 30 })
entry_1025 = refl
