-- The sections of a source, line by line: by the letters as they are written, and in layers, rules and win lines by names in lower case.
-- What a line means is told with it where the source is a game.
use Rattle.std.specs.Prelude.{ℕ, ◌+◌, if◌then◌else◌, nat_eq, List, [], ◌∷◌, ◌++◌, map, take, drop, slice_get, Option, Some, None, option_and_then, codes}
use Rattle.std.specs.List.{flat_map, enumerate_from}
use Rattle.std.specs.Option.{option_map_or}
use Rattle.std.specs.Char.{is_whitespace}
use Rattle.json.specs.Token.{Token, boolean, key}
use Rattle.pz_game.specs.Game.{denotation_in}
use Rattle.pz_game.specs.declared.denotation.Denotation.{Denotation}
use Rattle.pz_game.specs.declared.denotation.Kind.{Kind}
use Rattle.pz_game.specs.declared.denotation.Kind.TheVariants.{Object, Property, Aggregate}
use Rattle.pz_game.specs.declared.game.GameParts.{GameParts}
use Rattle.pz_game.specs.declared.limits.TheConstants.{MOST_OBJECTS}
use Rattle.pz_names.specs.Legend.{definition_of, sides}
use Rattle.pz_names.specs.Objects.{is_blank, paragraph_at, paragraphs_of, sprite_rows}
use Rattle.pz_names.specs.declared.legend.Definition.{Definition}
use Rattle.pz_names.specs.declared.name_line.NameLine.{NameLine}
use Rattle.pz_names.specs.declared.objects.Paragraph.{Paragraph}
use Rattle.pz_source.specs.Levels.{entries_of, is_message}
use Rattle.pz_source.specs.Rules.{rule_words}
use Rattle.pz_text.specs.Characters.{trimmed_text}
use Rattle.pz_text.specs.Words.{names_of, words}
use Rattle.pz_text.specs.declared.line.Line.{Line}
use Rattle.pz_text.specs.declared.line.Section.{Section}
use Rattle.pz_text.specs.declared.line.Section.TheVariants as section
use Rattle.pz_describe.specs.declared.reading.Reading.{Reading}
use Rattle.pz_describe.specs.declared.reading.Reading.TheVariants.{Refused, Unexpanded, Unruled, Whole}
use Rattle.pz_describe.specs.Values.{line_member, array, name_value, names_array, numbers_array, numeral, object, text, texts_array}

-- a section by the word of its heading
abbrev pub section_name : Section → List ℕ
section_name section.Prelude = codes "prelude"
section_name section.Objects = codes "objects"
section_name section.Legend = codes "legend"
section_name section.Sounds = codes "sounds"
section_name section.Layers = codes "collisionlayers"
section_name section.Rules = codes "rules"
section_name section.Wins = codes "winconditions"
section_name section.Levels = codes "levels"

-- a line that isn't left out: its number, its section, whether it is the heading, and its text without comments
abbrev pub line_tokens : Line → List Token
line_tokens line = array (numeral line.number ++ (name_value (section_name line.section) ++ (boolean line.is_heading ∷ text line.text)))

-- how long the keyword of a line of the prelude is: it ends at the first white space
abbrev pub keyword_end : List ℕ → ℕ
keyword_end [] = 0
keyword_end (c ∷ cs) = if is_whitespace c then 0 else keyword_end cs + 1

-- a line of the prelude: its number, its keyword, and its value without white space around it
abbrev pub prelude_tokens : Line → List Token
prelude_tokens line =
    if is_blank line then []
    else array (numeral line.number ++ (text (take (keyword_end line.text) line.text) ++ text (trimmed_text (drop (keyword_end line.text) line.text))))

-- the lines of a section from the one of this number on
abbrev pub lines_from : ℕ → List Line → List Line
lines_from number [] = []
lines_from number (line ∷ lines) = if nat_eq line.number number then line ∷ lines else lines_from number lines

-- the game of a source, if it is one
abbrev pub game_in : Reading → Option GameParts
game_in (Refused fault) = None
game_in (Unexpanded game) = Some game
game_in (Unruled game fault) = Some game
game_in (Whole game program) = Some game

-- the words of an object's colours, on the line below its names
abbrev pub colour_words : List Line → List (List ℕ)
colour_words [] = []
colour_words (line ∷ more) = words line.text

-- the rows of its sprite, below its colours
abbrev pub sprite_lines : List Line → List Line
sprite_lines [] = []
sprite_lines (colours ∷ more) = if is_blank colours then [] else sprite_rows 5 more

-- the layer of an object, by its place among the objects of a game
abbrev pub layer_of : Reading → ℕ → Option ℕ
layer_of read place = option_and_then (λ game. slice_get game.layers place) (game_in read)

abbrev pub layer_member : Option ℕ → List Token
layer_member None = []
layer_member (Some layer) = key (codes "layer") ∷ numeral layer

-- the number of a name line, its names, and the sprite below it
abbrev pub names_and_sprite : Line → List Line → List Token
names_and_sprite line below =
    line_member line.number
    ++ (key (codes "names") ∷ texts_array (words line.text)
    ++ key (codes "sprite") ∷ texts_array (map (λ row. row.text) (sprite_lines below)))

-- an object, from its name line on
abbrev pub object_tokens : Reading → ℕ → List Line → List Token
object_tokens read place [] = []
object_tokens read place (line ∷ below) =
    object (key (codes "colours") ∷ texts_array (colour_words below) ++ (layer_member (layer_of read place) ++ names_and_sprite line below))

-- the object of a place, with the paragraph that tells it
abbrev pub paragraph_tokens : Reading → List Line → ℕ × Paragraph → List Token
paragraph_tokens read lines entry = object_tokens read entry.0 (lines_from (paragraph_at entry.1) lines)

-- the objects, at most as many as a game may have
abbrev pub objects_array : Reading → List Line → List Token
objects_array read lines = array (flat_map (paragraph_tokens read lines) (enumerate_from 0 (take MOST_OBJECTS (paragraphs_of lines))))

abbrev pub kind_name : Kind → List ℕ
kind_name Object = codes "object"
kind_name Property = codes "property"
kind_name Aggregate = codes "aggregate"

-- what a name denotes in the game of a source
abbrev pub meaning : Reading → List ℕ → Option Denotation
meaning read name = option_and_then (λ game. denotation_in game name) (game_in read)

abbrev pub kind_member : Option Denotation → List Token
kind_member None = []
kind_member (Some denotation) = key (codes "kind") ∷ name_value (kind_name denotation.kind)

-- the members of a name, by their places among the objects
abbrev pub members_of : Option Denotation → List Token
members_of None = []
members_of (Some denotation) = key (codes "members") ∷ numbers_array denotation.members

-- a definition: the words on both sides of its `=`, and what the name denotes
abbrev pub definition_tokens : Reading → Line → Definition → List ℕ × List ℕ → List Token
definition_tokens read line definition both =
    object (kind_member (meaning read definition.name)
    ++ (key (codes "left") ∷ texts_array (words both.0)
    ++ (line_member line.number
    ++ (members_of (meaning read definition.name) ++ key (codes "right") ∷ texts_array (words both.1)))))

-- a line of LEGEND, if it is a definition
abbrev pub legend_tokens : Reading → Line → List Token
legend_tokens read line =
    option_map_or (λ definition. option_map_or (definition_tokens read line definition) (sides line.text) []) (definition_of line) []

-- a layer: its names
abbrev pub layer_tokens : NameLine → List Token
layer_tokens line = object (line_member line.number ++ key (codes "names") ∷ names_array line.names)

-- a line of RULES, by its words
abbrev pub rule_tokens : Line → List Token
rule_tokens line =
    if is_blank line then []
    else object (line_member line.number ++ key (codes "words") ∷ names_array (rule_words line.text))

-- a line of WINCONDITIONS, by its words
abbrev pub win_tokens : Line → List Token
win_tokens line =
    if is_blank line then []
    else object (line_member line.number ++ key (codes "words") ∷ names_array (names_of line.text))

-- an entry of LEVELS: a message with its text, or a level with its rows
abbrev pub entry_tokens : List Line → List Token
entry_tokens [] = []
entry_tokens (first ∷ rest) =
    if is_message first then object (line_member first.number ++ key (codes "message") ∷ text (trimmed_text (drop 7 first.text)))
    else object (line_member first.number ++ key (codes "rows") ∷ texts_array (map (λ row. row.text) (first ∷ rest)))

abbrev pub levels_array : List Line → List Token
levels_array lines = array (flat_map entry_tokens (entries_of [] lines))
