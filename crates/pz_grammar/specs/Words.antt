-- The words of rules. In rules a rule word always has its rule meaning, even if something has that name.
use Rattle.std.specs.Prelude.{ℕ, List, [], ◌∷◌, Option, Some, None, codes, if◌then◌else◌}
use Rattle.std.specs.Str.{bytes_eq}
use Rattle.std.specs.Option.{option_or, option_map, option_map_or}
use Rattle.pz_base.specs.NameSet.{number_in}
use Rattle.pz_game.specs.declared.direction.Dir.TheVariants as dir
use Rattle.pz_grammar.specs.declared.token.Turn.TheVariants as turn
use Rattle.pz_grammar.specs.declared.token.Class.{Class}
use Rattle.pz_grammar.specs.declared.token.Class.TheVariants as class
use Rattle.pz_grammar.specs.declared.token.Lead.{Lead}
use Rattle.pz_grammar.specs.declared.token.Lead.TheVariants as lead
use Rattle.pz_grammar.specs.declared.token.Command.{Command}
use Rattle.pz_grammar.specs.declared.token.Command.TheVariants as command
use Rattle.pz_grammar.specs.declared.token.Token.{Token}
use Rattle.pz_grammar.specs.declared.token.Token.TheVariants as token

-- a word that may stand before a name
unfoldable pub lead_of : List ℕ → Option (Lead Class)
lead_of word =
    (if bytes_eq word (codes "no") then Some lead.No else
    (if bytes_eq word (codes "up") then Some (lead.Toward dir.Up) else
    (if bytes_eq word (codes "down") then Some (lead.Toward dir.Down) else
    (if bytes_eq word (codes "left") then Some (lead.Toward dir.Left) else
    (if bytes_eq word (codes "right") then Some (lead.Toward dir.Right) else
    (if bytes_eq word (codes "action") then Some (lead.Toward dir.Action) else
    (if bytes_eq word (codes "^") then Some (lead.Turned turn.Up) else
    (if bytes_eq word (codes "v") then Some (lead.Turned turn.Down) else
    (if bytes_eq word (codes "<") then Some (lead.Turned turn.Back) else
    (if bytes_eq word (codes ">") then Some (lead.Turned turn.Ahead) else
    (if bytes_eq word (codes "stationary") then Some lead.Stationary else
    (if bytes_eq word (codes "moving") then Some (lead.OneOf class.Moving) else
    (if bytes_eq word (codes "orthogonal") then Some (lead.OneOf class.Orthogonal) else
    (if bytes_eq word (codes "horizontal") then Some (lead.OneOf class.Horizontal) else
    (if bytes_eq word (codes "vertical") then Some (lead.OneOf class.Vertical) else
    (if bytes_eq word (codes "parallel") then Some (lead.OneOf class.Parallel) else
    (if bytes_eq word (codes "perpendicular") then Some (lead.OneOf class.Perpendicular) else
    None)))))))))))))))))

unfoldable pub command_of_word : List ℕ → Option Command
command_of_word word =
    (if bytes_eq word (codes "again") then Some command.Again else
    (if bytes_eq word (codes "cancel") then Some command.Cancel else
    (if bytes_eq word (codes "checkpoint") then Some command.Checkpoint else
    (if bytes_eq word (codes "restart") then Some command.Restart else
    (if bytes_eq word (codes "win") then Some command.Win else
    (if bytes_eq word (codes "sfx0") then Some (command.Sound 0) else
    (if bytes_eq word (codes "sfx1") then Some (command.Sound 1) else
    (if bytes_eq word (codes "sfx2") then Some (command.Sound 2) else
    (if bytes_eq word (codes "sfx3") then Some (command.Sound 3) else
    (if bytes_eq word (codes "sfx4") then Some (command.Sound 4) else
    (if bytes_eq word (codes "sfx5") then Some (command.Sound 5) else
    (if bytes_eq word (codes "sfx6") then Some (command.Sound 6) else
    (if bytes_eq word (codes "sfx7") then Some (command.Sound 7) else
    (if bytes_eq word (codes "sfx8") then Some (command.Sound 8) else
    (if bytes_eq word (codes "sfx9") then Some (command.Sound 9) else
    (if bytes_eq word (codes "sfx10") then Some (command.Sound 10) else
    None))))))))))))))))

unfoldable pub mark_of : List ℕ → Option Token
mark_of word =
    (if bytes_eq word (codes "[") then Some token.Open else
    (if bytes_eq word (codes "]") then Some token.Close else
    (if bytes_eq word (codes "|") then Some token.Bar else
    (if bytes_eq word (codes "->") then Some token.Arrow else
    (if bytes_eq word (codes "...") then Some token.Gap else
    (if bytes_eq word (codes "late") then Some token.Late else
    (if bytes_eq word (codes "startloop") then Some token.StartLoop else
    (if bytes_eq word (codes "endloop") then Some token.EndLoop else
    None))))))))

-- rules.words: the rule word that a text spells
unfoldable pub rule_word : List ℕ → Option Token
rule_word word = option_or (mark_of word) (option_or (option_map token.Lead (lead_of word)) (option_map token.Command (command_of_word word)))

-- the token of a word in a game with these names
unfoldable pub token_of : List (List ℕ) → List ℕ → Token
token_of names word = option_map_or (λ t. t) (rule_word word) (token.Name (number_in names word))

-- the tokens of words; what follows `message` is its text
unfoldable pub tokens_from : List (List ℕ) → List (List ℕ) → List Token
tokens_from names [] = []
tokens_from names (word ∷ words) =
    if bytes_eq word (codes "message") then token.Command command.Message ∷ [] else token_of names word ∷ tokens_from names words

-- the tokens of a line; `+` is a rule word only as the first
unfoldable pub tokens_of : List (List ℕ) → List (List ℕ) → List Token
tokens_of names [] = []
tokens_of names (word ∷ words) = if bytes_eq word (codes "+") then token.Plus ∷ tokens_from names words else tokens_from names (word ∷ words)
