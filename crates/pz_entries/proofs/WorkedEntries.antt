-- Worked cases of level texts that are read, and of the sessions file.
use Rattle.std.proofs.Common.{◌≡◌, List, ℕ, [], ◌∷◌, Some, None, Ok, Err, refl}
use Rattle.std.specs.Prelude.{codes, map}
use Rattle.serde_json.specs.Data.{Data, Items, null, number, string, array, object, unsigned, no_items, item, no_members}
use Rattle.pz_game.specs.declared.direction.Dir.TheVariants.{Up, Down, Left, Right, Action}
use Rattle.pz_record.specs.CellNames.{with_name}
use Rattle.pz_record.specs.declared.input.Input.TheVariants.{Press, Undo, Restart, Tick}
use Rattle.pz_entries.specs.declared.fault.FileFault.TheVariants.{BadEntry, BadLevel}
use Rattle.pz_entries.specs.Entry.{index_of, written_of, entry_of}
use Rattle.pz_entries.specs.File.{listed_entries}
use Rattle.pz_entries.specs.Input.{input_of, inputs_of}
use Rattle.pz_entries.specs.Json.{list_of}
use Rattle.pz_entries.specs.Names.{with_word, name_set}
use Rattle.pz_entries.specs.Reading.{number_of, read_piece, reading}

-- the names of a text

-- they are folded; a name twice counts once, and two spaces hold no name between them
names_of_a_text : name_set (codes " Wall  crate wall") ≡ codes "crate" ∷ codes "wall" ∷ []
unfolding name_set with_word with_name
names_of_a_text = refl

spaces_alone : name_set (codes "  ") ≡ []
unfolding name_set with_word with_name
spaces_alone = refl

-- a level text is read

-- line ends are ignored, also inside a number; leading zeros are read
read_back : reading (codes "B a a:0,0\n0,\r\n:1,01,\n") ≡ Some ((codes "a" ∷ codes "b" ∷ []) ∷ (codes "a" ∷ codes "b" ∷ []) ∷ [] ∷ [] ∷ [])
unfolding reading read_piece number_of name_set with_word with_name
read_back = refl

-- a piece is cut at its last colon
colon_in_a_name : reading (codes "a:b:0,") ≡ Some ((codes "a:b" ∷ []) ∷ [])
unfolding reading read_piece number_of name_set with_word with_name
colon_in_a_name = refl

-- a text without a piece is a level without a cell
no_piece : reading [] ≡ Some []
unfolding reading
no_piece = refl

-- a new number that isn't the next, a known one that isn't there, a piece without its comma, and one without anything
not_the_next : reading (codes "a:0,b:2,") ≡ None
unfolding reading read_piece number_of name_set with_word with_name
not_the_next = refl

not_there_yet : reading (codes "a:0,1,b:1,") ≡ None
unfolding reading read_piece number_of name_set with_word with_name
not_there_yet = refl

no_comma : reading (codes "a:0,0") ≡ None
unfolding reading read_piece number_of name_set with_word with_name
no_comma = refl

empty_piece : reading (codes "a:0,,") ≡ None
unfolding reading read_piece number_of name_set with_word with_name
empty_piece = refl

-- the sessions file

-- the numbers, and that 5 is none of them
numbers : map (λ n. input_of (number (unsigned n))) (0 ∷ 1 ∷ 2 ∷ 3 ∷ 4 ∷ 5 ∷ [])
    ≡ Some (Press Up) ∷ Some (Press Left) ∷ Some (Press Down) ∷ Some (Press Right) ∷ Some (Press Action) ∷ None ∷ []
numbers = refl

-- words in small letters; a number in a text is none
input_words : map (λ t. input_of (string t)) (codes "undo" ∷ codes "restart" ∷ codes "tick" ∷ codes "Undo" ∷ codes "0" ∷ [])
    ≡ Some Undo ∷ Some Restart ∷ Some Tick ∷ None ∷ None ∷ []
input_words = refl

-- one input that is none, and there are no inputs
bad_input : inputs_of (array (item (number (unsigned 3)) (item null no_items))) ≡ None
unfolding inputs_of
bad_input = refl

-- no index is 0, null too; a text is no index
indexes : map index_of (None ∷ Some null ∷ Some (number (unsigned 7)) ∷ Some (string (codes "7")) ∷ []) ≡ Some 0 ∷ Some 0 ∷ Some 7 ∷ None ∷ []
indexes = refl

-- a JSON object is no list
object_is_no_list : list_of (object no_members) ≡ None
object_is_no_list = refl

-- [name, [source, inputs, level, ..]]
abbrev session : List ℕ → Items → List ℕ → Items → Data
session name inputs level more =
    array (item (string name) (item (array (item (string (codes "s")) (item (array inputs) (item (string level) more)))) no_items))

-- further elements are not looked at
further_elements : listed_entries (session (codes "a") (item (number (unsigned 0)) (item (string (codes "undo")) no_items)) (codes "w:0,0,")
    (item null (item (string (codes "seed")) (item null no_items))) ∷ [])
    ≡ Ok (record {
      name = codes "a";
      source = codes "s";
      inputs = Press Up ∷ Undo ∷ [];
      recorded = (codes "w" ∷ []) ∷ (codes "w" ∷ []) ∷ [];
      index = 0;
    } ∷ [])
unfolding entry_of written_of inputs_of reading read_piece number_of name_set with_word with_name
further_elements = refl

-- a file without a session
no_session : listed_entries [] ≡ Ok []
no_session = refl

-- an entry that is bad and has a bad level text: the entry goes first
bad_entry_first : listed_entries (session (codes "a") (item (string (codes "up")) no_items) (codes "w") no_items ∷ []) ≡ Err (BadEntry 0)
unfolding entry_of written_of inputs_of
bad_entry_first = refl

-- the bad level text of an entry goes before a later entry that is none
bad_level_above : listed_entries (session (codes "a") no_items (codes "w") no_items ∷ null ∷ []) ≡ Err (BadLevel 0)
unfolding entry_of written_of inputs_of reading read_piece number_of
bad_level_above = refl

-- entries are numbered from 0
second_entry : listed_entries (session (codes "a") no_items [] no_items ∷ null ∷ []) ≡ Err (BadEntry 1)
unfolding entry_of written_of inputs_of reading
second_entry = refl
