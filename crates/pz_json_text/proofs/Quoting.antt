-- What a JSON writer has written after one text, and what text that stands for.
use Rattle.std.proofs.Common.{◌≡◌, ℕ, List, [], ◌∷◌, ◌++◌, refl, ap, ap₂, sym, ◌∙◌}
use Rattle.std.proofs.lemmas.List.{append-nil}
use Rattle.json.specs.Lex.{tokens}
use Rattle.json.specs.Token.{Token, string}
use Rattle.json.specs.Print.{print, print_from, escape, quoted, ArePrintable}
use Rattle.json.proofs.Printed.Tokens.{tokens-print}
use Rattle.pz_json_text.specs.Quoted.{text_of_token, text_of_first, text_said, escaped_says}

pub written_quoted : (text : List ℕ) (ts : List Token) → ts ≡ string text ∷ [] → print ts ≡ quoted text
unfolding print_from
written_quoted text ts is = ap print is ∙ append-nil (quoted text)

pub quoted_says : (text : List ℕ) (ts : List Token) → ts ≡ string text ∷ [] → tokens (print ts) ≡ ts → text_said (quoted text) ≡ text
unfolding text_said
quoted_says text ts is back = ap text_of_first (ap tokens (sym (written_quoted text ts is)) ∙ back ∙ is)

-- into empty room the writer writes the text, quoted, which stands for the text
pub kept_quoted : (text before json : List ℕ) (ts : List Token) → json ≡ before ++ print ts → before ≡ [] → ts ≡ string text ∷ [] → tokens (print ts) ≡ ts → (json ≡ quoted (text_said json)) × (text_said json ≡ text)
kept_quoted text before json ts made empty is back =
    let written : json ≡ quoted text = made ∙ ap₂ (λ b w. b ++ w) empty (written_quoted text ts is) in
    let says : text_said json ≡ text = ap text_said written ∙ quoted_says text ts is back in
    (written ∙ ap quoted (sym says), says)

-- an escaped text stands for the text that was escaped
escaped_back : (text : List ℕ) → escaped_says (escape text) ≡ text
unfolding ArePrintable
escaped_back text = quoted_says text (string text ∷ []) refl (tokens-print (string text ∷ []) (tt, tt))

-- bytes that are a text, escaped
pub room_says : (bytes text : List ℕ) → bytes ≡ escape text → (bytes ≡ escape (escaped_says bytes)) × (escaped_says bytes ≡ text)
room_says bytes text e =
    let says : escaped_says bytes ≡ text = ap escaped_says e ∙ escaped_back text in
    (e ∙ ap escape (sym says), says)

-- the first token that a reader of a JSON text gives says what text the JSON stands for
pub first_says : (json text : List ℕ) (ts rest : List Token) (token : Token) → text_said json ≡ text → ts ≡ tokens json → ts ≡ token ∷ rest → text_of_token token ≡ text
unfolding text_said
first_says json text ts rest token says is first = ap text_of_first (sym first ∙ is) ∙ says
