-- The values that a description is made of, as tokens of JSON.
use Rattle.std.specs.Prelude.{ℕ, List, [], ◌∷◌, ◌++◌, codes, decimal, encode_utf8_all}
use Rattle.std.specs.List.{flat_map}
use Rattle.json.specs.Token.{Token, begin_array, begin_object, end_array, end_object, key, number, string}

-- members between the brackets of an object, values between those of a list
abbrev pub object : List Token → List Token
object members = begin_object ∷ (members ++ end_object ∷ [])

abbrev pub array : List Token → List Token
array values = begin_array ∷ (values ++ end_array ∷ [])

abbrev pub numeral : ℕ → List Token
numeral n = number (decimal n) ∷ []

abbrev pub name_value : List ℕ → List Token
name_value name = string name ∷ []

-- a text of characters
abbrev pub text : List ℕ → List Token
text characters = string (encode_utf8_all characters) ∷ []

abbrev pub names_array : List (List ℕ) → List Token
names_array names = array (flat_map name_value names)

abbrev pub texts_array : List (List ℕ) → List Token
texts_array texts = array (flat_map text texts)

abbrev pub numbers_array : List ℕ → List Token
numbers_array numbers = array (flat_map numeral numbers)

-- the number of a line, as a member
abbrev pub line_member : ℕ → List Token
line_member at = key (codes "line") ∷ numeral at
