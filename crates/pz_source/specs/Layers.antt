-- COLLISIONLAYERS: which layer each object is in.
use Rattle.std.specs.Prelude.{ℕ, ◌+◌, Bool, not, ◌==◌, ◌||◌, if◌then◌else◌, nat_le, List, [], ◌∷◌, length, map, filter, Option, Some, None, is_some, option_and_then, slice_get}
use Rattle.std.specs.List.{list_any, filter_map, slice_split, range_with_len}
use Rattle.std.specs.Option.{option_map_or}
use Rattle.std.specs.Char.{is_whitespace}
use Rattle.pz_base.specs.Fault.{first_fault, or_else}
use Rattle.pz_base.specs.Name.{name_of}
use Rattle.pz_base.specs.NameSet.{is_name_of}
use Rattle.pz_text.specs.declared.line.Line.{Line}
use Rattle.pz_base.specs.declared.fault.SourceFault.{SourceFault}
use Rattle.pz_base.specs.declared.fault.Code.{Code}
use Rattle.pz_base.specs.declared.fault.Code.TheVariants as code
use Rattle.pz_names.specs.Meaning.{number_or_end}
use Rattle.pz_names.specs.Kinds.{kind_in, is_of_kind}
use Rattle.pz_names.specs.declared.name_line.NameLine.{NameLine}
use Rattle.pz_game.specs.declared.denotation.Denotation.{Denotation}
use Rattle.pz_game.specs.declared.denotation.Kind.TheVariants.{Aggregate}
use Rattle.pz_game.specs.declared.limits.TheConstants.{MOST_LAYERS}

-- the words of a line, separated by commas or white space
abbrev pub layer_words : List ℕ → List (List ℕ)
layer_words line = filter (λ word. not (length word == 0)) (slice_split (λ c. is_whitespace c || c == 44) line)

abbrev pub layer_names : List ℕ → List (List ℕ)
layer_names line = map name_of (layer_words line)

-- the layers: the lines with a name; a line without one is no layer
abbrev pub layer_lines : List Line → List NameLine
layer_lines [] = []
layer_lines (line ∷ lines) =
    if length (layer_names line.text) == 0 then layer_lines lines
    else record { number = line.number; names = layer_names line.text } ∷ layer_lines lines

abbrev pub name_line_at : NameLine → ℕ
name_line_at line = line.number

-- what is wrong with a layer, with `above` layers above it: an unknown name, an aggregate, or one layer too many
abbrev pub layer_fault : List (List ℕ) → List Denotation → ℕ → List (List ℕ) → Option Code
layer_fault names values above layer =
    if list_any (λ name. not (is_name_of names name)) layer then Some code.Unknown
    else (if list_any (λ name. is_of_kind Aggregate (kind_in names values name)) layer then Some code.Mixed
    else (if nat_le MOST_LAYERS above then Some code.TooLarge else None))

abbrev pub misplaces : List (List ℕ) → List Denotation → List NameLine → NameLine → Option Code
misplaces names values before layer = layer_fault names values (length before) layer.names

-- the members of a name, by the numbers of the objects
abbrev pub members_of : List (List ℕ) → List Denotation → List ℕ → List ℕ
members_of names values name = option_map_or (λ d. d.members) (slice_get values (number_or_end names name)) []

-- a layer names an object, or a property that the object is a member of
abbrev pub holds : List (List ℕ) → List Denotation → NameLine → ℕ → Bool
holds names values layer object = list_any (λ name. list_any (λ member. member == object) (members_of names values name)) layer.names

-- the last of the layers that holds an object, or else `found`; the layers are numbered from `number` on
abbrev pub last_layer : (NameLine → ℕ → Bool) → ℕ → Option ℕ → List NameLine → ℕ → Option ℕ
last_layer holds number found [] object = found
last_layer holds number found (layer ∷ layers) object = last_layer holds (number + 1) (if holds layer object then Some number else found) layers object

-- the layer of an object: the last that holds it; a layer counts even if later ones take all its objects
abbrev pub layer_of : (NameLine → ℕ → Bool) → List NameLine → ℕ → Option ℕ
layer_of holds layers object = last_layer holds 0 None layers object

abbrev pub entry_at : List (Option ℕ) → ℕ → Option ℕ
entry_at table object = option_and_then (λ entry. entry) (slice_get table object)

-- `NoLayer` at the line of an object in no layer; the objects are numbered by their lines
abbrev pub lies_nowhere : (ℕ → Option ℕ) → List NameLine → NameLine → Option Code
lies_nowhere layer before line = if is_some (layer (length before)) then None else Some code.NoLayer

-- checks.layers
abbrev pub fault_of_layers : List NameLine → List (List ℕ) → List Denotation → List Line → Option SourceFault
fault_of_layers objects names values lines =
    or_else (first_fault name_line_at (misplaces names values) [] (layer_lines lines))
    (first_fault name_line_at (lies_nowhere (layer_of (holds names values) (layer_lines lines))) [] objects)

-- layers.lines: the layer of each object
abbrev pub layers_of : List NameLine → List (List ℕ) → List Denotation → List Line → List ℕ
layers_of objects names values lines = filter_map (layer_of (holds names values) (layer_lines lines)) (range_with_len 0 (length objects))
