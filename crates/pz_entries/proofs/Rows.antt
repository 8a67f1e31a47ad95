-- Worked cases: what level texts read as, and what files of sessions say.
use Rattle.std.proofs.Common.{◌≡◌, ℕ, List, [], ◌∷◌, codes, Some, None, Ok, Err, refl}
use Rattle.serde_json.proofs.OnLiterals.{serde_json_on_literals}
use Rattle.pz_game.specs.declared.direction.Dir.TheVariants.{Up, Action}
use Rattle.pz_record.specs.CellNames.{with_name}
use Rattle.pz_record.specs.declared.input.Input.TheVariants.{Press, Undo, Restart, Tick}
use Rattle.pz_entries.specs.Names.{with_word, name_set}
use Rattle.pz_entries.specs.Reading.{reading, read_piece, number_of}
use Rattle.pz_entries.specs.Input.{inputs_of}
use Rattle.pz_entries.specs.Entry.{written_of, entry_of}
use Rattle.pz_entries.specs.File.{entries_of}
use Rattle.pz_entries.specs.declared.fault.FileFault.TheVariants.{NotJson, BadEntry, BadLevel}

abbrev background : List ℕ
background = codes "background"

abbrev player : List ℕ
player = codes "player"

abbrev wall : List ℕ
wall = codes "wall"

walked : reading (codes "background wall:0,background:1,background player:2,0,") ≡ Some ((background ∷ wall ∷ []) ∷ (background ∷ []) ∷ (background ∷ player ∷ []) ∷ (background ∷ wall ∷ []) ∷ [])
unfolding reading read_piece number_of name_set with_word with_name
walked = refl

-- in another order, with capitals, more spaces and a name twice; a number with a leading zero; other line ends
loosely : reading (codes "  Player  background player :0,\r\n00,") ≡ Some ((background ∷ player ∷ []) ∷ (background ∷ player ∷ []) ∷ [])
unfolding reading read_piece number_of name_set with_word with_name
loosely = refl

no_cells : reading [] ≡ Some []
unfolding reading read_piece number_of name_set with_word with_name
no_cells = refl

empty_cell : reading (codes ":0,0,") ≡ Some ([] ∷ [] ∷ [])
unfolding reading read_piece number_of name_set with_word with_name
empty_cell = refl

set_twice : reading (codes "a:0,a:1,") ≡ Some ((codes "a" ∷ []) ∷ (codes "a" ∷ []) ∷ [])
unfolding reading read_piece number_of name_set with_word with_name
set_twice = refl

no_comma_at_end : reading (codes "a:0") ≡ None
unfolding reading read_piece number_of name_set with_word with_name
no_comma_at_end = refl

number_left_out : reading (codes "a:1,") ≡ None
unfolding reading read_piece number_of name_set with_word with_name
number_left_out = refl

number_unknown : reading (codes "a:0,1,") ≡ None
unfolding reading read_piece number_of name_set with_word with_name
number_unknown = refl

-- the seed and what follows it are not looked at
one_entry : entries_of (codes "[[\"a\",[\"s\",[0,4,\"undo\",\"restart\",\"tick\"],\"x:0,\",null,\"seed\",7],8]]")
    ≡ Ok (record { name = codes "a"; source = codes "s"; inputs = Press Up ∷ Press Action ∷ Undo ∷ Restart ∷ Tick ∷ []; recorded = (codes "x" ∷ []) ∷ []; index = 0 } ∷ [])
unfolding serde_json_on_literals entries_of entry_of written_of inputs_of reading read_piece number_of name_set with_word with_name
one_entry = refl

no_index : entries_of (codes "[[\"a\",[\"\",[],\"\"]],[\"b\",[\"\",[],\"\",3]]]")
    ≡ Ok (record { name = codes "a"; source = []; inputs = []; recorded = []; index = 0 } ∷ record { name = codes "b"; source = []; inputs = []; recorded = []; index = 3 } ∷ [])
unfolding serde_json_on_literals entries_of entry_of written_of inputs_of reading read_piece number_of name_set with_word with_name
no_index = refl

cut_short : entries_of (codes "[[\"a\",") ≡ Err NotJson
unfolding serde_json_on_literals entries_of entry_of written_of inputs_of reading read_piece number_of name_set with_word with_name
cut_short = refl

no_list : entries_of (codes "{}") ≡ Err NotJson
unfolding serde_json_on_literals entries_of entry_of written_of inputs_of reading read_piece number_of name_set with_word with_name
no_list = refl

unknown_number : entries_of (codes "[[\"a\",[\"\",[5],\"\"]]]") ≡ Err (BadEntry 0)
unfolding serde_json_on_literals entries_of entry_of written_of inputs_of reading read_piece number_of name_set with_word with_name
unknown_number = refl

unknown_word : entries_of (codes "[[\"a\",[\"\",[\"up\"],\"\"]]]") ≡ Err (BadEntry 0)
unfolding serde_json_on_literals entries_of entry_of written_of inputs_of reading read_piece number_of name_set with_word with_name
unknown_word = refl

bad_index : entries_of (codes "[[\"a\",[\"\",[0],\"\",\"x\"]]]") ≡ Err (BadEntry 0)
unfolding serde_json_on_literals entries_of entry_of written_of inputs_of reading read_piece number_of name_set with_word with_name
bad_index = refl

-- of one entry its form comes before its level
form_first : entries_of (codes "[[\"a\",[\"\",[5],\"x\"]]]") ≡ Err (BadEntry 0)
unfolding serde_json_on_literals entries_of entry_of written_of inputs_of reading read_piece number_of name_set with_word with_name
form_first = refl

-- of two entries the earlier comes first
earlier_first : entries_of (codes "[[\"a\",[\"\",[0],\"x\"]],7]") ≡ Err (BadLevel 0)
unfolding serde_json_on_literals entries_of entry_of written_of inputs_of reading read_piece number_of name_set with_word with_name
earlier_first = refl

later_fault : entries_of (codes "[[\"a\",[\"\",[0],\"\"]],7]") ≡ Err (BadEntry 1)
unfolding serde_json_on_literals entries_of entry_of written_of inputs_of reading read_piece number_of name_set with_word with_name
later_fault = refl

-- numbers with a fraction, an exponent or a sign, or past 64 bits
fraction : entries_of (codes "[[\"a\",[\"\",[1.0],\"\"]]]") ≡ Err (BadEntry 0)
unfolding serde_json_on_literals entries_of entry_of written_of inputs_of reading read_piece number_of name_set with_word with_name
fraction = refl

exponent : entries_of (codes "[[\"a\",[\"\",[1e0],\"\"]]]") ≡ Err (BadEntry 0)
unfolding serde_json_on_literals entries_of entry_of written_of inputs_of reading read_piece number_of name_set with_word with_name
exponent = refl

minus_zero : entries_of (codes "[[\"a\",[\"\",[0],\"\",-0]]]") ≡ Err (BadEntry 0)
unfolding serde_json_on_literals entries_of entry_of written_of inputs_of reading read_piece number_of name_set with_word with_name
minus_zero = refl

past_64_bits : entries_of (codes "[[\"a\",[\"\",[0],\"\",18446744073709551616]]]") ≡ Err (BadEntry 0)
unfolding serde_json_on_literals entries_of entry_of written_of inputs_of reading read_piece number_of name_set with_word with_name
past_64_bits = refl
