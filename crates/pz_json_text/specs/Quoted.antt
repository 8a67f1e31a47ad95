-- The text that a JSON string stands for.
use Rattle.std.specs.Prelude.{ℕ, List, [], ◌∷◌, ◌++◌}
use Rattle.json.specs.Lex.{tokens}
use Rattle.json.specs.Token.{Token}

abbrev pub text_of_token : Token → List ℕ
text_of_token Token.begin_object = []
text_of_token Token.end_object = []
text_of_token Token.begin_array = []
text_of_token Token.end_array = []
text_of_token (Token.key s) = []
text_of_token (Token.string s) = s
text_of_token (Token.number s) = []
text_of_token (Token.boolean b) = []
text_of_token Token.null = []
text_of_token Token.bad = []

abbrev pub text_of_first : List Token → List ℕ
text_of_first [] = []
text_of_first (token ∷ tokens) = text_of_token token

-- program.strings: the text that a JSON string stands for, as a reader of JSON gives it
unfoldable pub text_said : List ℕ → List ℕ
text_said json = text_of_first (tokens json)

-- the text that an escaped text stands for
abbrev pub escaped_says : List ℕ → List ℕ
escaped_says bytes = text_said (34 ∷ (bytes ++ 34 ∷ []))
