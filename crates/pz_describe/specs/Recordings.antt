-- What is told of a level text, and of the sessions of a file. Cells that have the same names have the same number, in whatever order a text
-- names them; each source that several sessions have is told once.
use Rattle.std.specs.Prelude.{◌≡◌, ℕ, Bool, true, false, List, [], ◌∷◌, ◌++◌, map, slice_index_or, Option, Some, None, codes}
use Rattle.std.specs.List.{flat_map}
use Rattle.json.specs.Print.{print}
use Rattle.json.specs.Token.{Token, key, null, string}
use Rattle.pz_base.specs.NameSet.{is_name_of, number_in}
use Rattle.pz_entries.specs.Reading.{reading}
use Rattle.pz_entries.specs.declared.entry.Entry.{Entry}
use Rattle.pz_game.specs.declared.direction.Dir.{Dir}
use Rattle.pz_game.specs.declared.direction.Dir.TheVariants.{Up, Left, Down, Right, Action}
use Rattle.pz_json_text.specs.CellTexts.{text_of_names, known_of}
use Rattle.pz_record.specs.declared.input.Input.{Input}
use Rattle.pz_record.specs.declared.input.Input.TheVariants.{Press, Undo, Restart, Tick}
use Rattle.pz_describe.specs.Values.{array, name_value, names_array, numbers_array, numeral, object}

abbrev pub or_first : Option ℕ → ℕ
or_first None = 0
or_first (Some place) = place

-- the place of a text among others
abbrev pub place_in : List (List ℕ) → List ℕ → ℕ
place_in texts text = or_first (number_in texts text)

-- the names of each cell, separated by spaces
abbrev pub cell_texts : List (List (List ℕ)) → List (List ℕ)
cell_texts cells = map text_of_names cells

-- cells with these texts, by their places among texts of which none stands twice
abbrev pub numbered_tokens : List (List ℕ) → List (List ℕ) → List Token
numbered_tokens known texts =
    object (key (codes "cells") ∷ numbers_array (map (place_in known) texts)
    ++ key (codes "sets") ∷ names_array known)

-- cells with these texts: for each cell the number of its text, and each text once, in the order of first appearance
abbrev pub cells_tokens : List (List ℕ) → List Token
cells_tokens texts = numbered_tokens (known_of texts) texts

abbrev pub level_tokens : List (List (List ℕ)) → List Token
level_tokens cells = cells_tokens (cell_texts cells)

-- a text that is no level text gives no cells
abbrev pub level_or_null : Option (List (List (List ℕ))) → List Token
level_or_null None = null ∷ []
level_or_null (Some cells) = level_tokens cells

-- the description of a level text
abbrev pub level_description_of : List ℕ → List ℕ
level_description_of text = print (level_or_null (reading text))

abbrev pub press_number : Dir → ℕ
press_number Up = 0
press_number Left = 1
press_number Down = 2
press_number Right = 3
press_number Action = 4

-- an input as a file of sessions writes it
abbrev pub input_tokens : Input → List Token
input_tokens (Press direction) = numeral (press_number direction)
input_tokens Undo = name_value (codes "undo")
input_tokens Restart = name_value (codes "restart")
input_tokens Tick = name_value (codes "tick")

-- each source once, in the order of first appearance
abbrev pub sources_of : List Entry → List (List ℕ)
sources_of entries = known_of (map (λ entry. entry.source) entries)

-- what is played: the entry of LEVELS at which a session starts, and its inputs
abbrev pub played_members : Entry → List Token
played_members entry =
    key (codes "index") ∷ numeral entry.index
    ++ key (codes "inputs") ∷ array (flat_map input_tokens entry.inputs)

-- where it ended, its name, and its source by its place among the sources
abbrev pub recorded_members : List (List ℕ) → Entry → List Token
recorded_members sources entry =
    key (codes "level") ∷ level_tokens entry.recorded
    ++ (key (codes "name") ∷ name_value entry.name
    ++ key (codes "source") ∷ numeral (place_in sources entry.source))

unfoldable pub session_tokens : List (List ℕ) → Entry → List Token
session_tokens sources entry = object (played_members entry ++ recorded_members sources entry)

unfoldable pub sessions_array : List (List ℕ) → List Entry → List Token
sessions_array sources entries = array (flat_map (session_tokens sources) entries)

abbrev pub file_members : List (List ℕ) → List Entry → List Token
file_members sources entries =
    key (codes "sessions") ∷ sessions_array sources entries
    ++ key (codes "sources") ∷ names_array sources

abbrev pub file_tokens : List (List ℕ) → List Entry → List Token
file_tokens sources entries = object (file_members sources entries)

abbrev pub recordings_tokens : List Entry → List Token
recordings_tokens entries = file_tokens (sources_of entries) entries

-- the description of the sessions of a file: JSON without spaces, each object's keys in the order of their bytes
abbrev pub recordings_description_of : List Entry → List ℕ
recordings_description_of entries = print (recordings_tokens entries)

-- the texts at the places of which so is noted are among the known ones
abbrev pub AreKnown : List Bool → List (List ℕ) → List (List ℕ) → Type 0
AreKnown noted known texts = (place : ℕ) → slice_index_or noted place false ≡ true → is_name_of known (slice_index_or texts place []) ≡ true
