-- What a rule is written as.
use Rattle.std.specs.Prelude.{◌≡◌, Bool, true, false, ◌&&◌, List, [], ◌∷◌, ◌++◌, Option, Some, None, map}
use Rattle.std.specs.List.{flat_map, list_all}
use Rattle.pz_grammar.specs.declared.token.Lead.{Lead}
use Rattle.pz_grammar.specs.declared.token.Lead.TheVariants as lead
use Rattle.pz_grammar.specs.declared.token.Class.{Class}
use Rattle.pz_grammar.specs.declared.token.Class.TheVariants as class
use Rattle.pz_game.specs.declared.direction.Dir.TheVariants as dir
use Rattle.pz_grammar.specs.declared.token.Token.{Token}
use Rattle.pz_grammar.specs.declared.token.Token.TheVariants as token
use Rattle.pz_grammar.specs.declared.rule.Phrase.{Phrase}
use Rattle.pz_grammar.specs.declared.rule.Cell.{Cell}
use Rattle.pz_grammar.specs.declared.rule.Cell.TheVariants as cell
use Rattle.pz_grammar.specs.declared.rule.Rule.{Rule}

abbrev pub lead_tokens : Option (Lead Class) → List Token
lead_tokens None = []
lead_tokens (Some lead) = token.Lead lead ∷ []

-- a name, with the word before it
abbrev pub phrase_tokens : Phrase → List Token
phrase_tokens phrase = lead_tokens phrase.lead ++ token.Name phrase.name ∷ []

abbrev pub cell_tokens : Cell → List Token
cell_tokens cell.Gap = token.Gap ∷ []
cell_tokens (cell.Items phrases) = flat_map phrase_tokens phrases

-- bars separate cells, and a bracket ends a row
abbrev pub cells_tokens : Cell → List Cell → List Token
cells_tokens c [] = cell_tokens c ++ token.Close ∷ []
cells_tokens c (next ∷ cells) = cell_tokens c ++ token.Bar ∷ cells_tokens next cells

abbrev pub row_tokens : List Cell → List Token
row_tokens [] = []
row_tokens (c ∷ cells) = token.Open ∷ cells_tokens c cells

abbrev pub rows_tokens : List (List Cell) → List Token
rows_tokens rows = flat_map row_tokens rows

abbrev pub joined_tokens : Bool → List Token
joined_tokens true = token.Plus ∷ []
joined_tokens false = []

-- `+`, prefixes, rows, the arrow, rows, commands
abbrev pub tokens_of_rule : Rule → List Token
tokens_of_rule rule =
    joined_tokens rule.is_joined
    ++ (rule.prefixes ++ (rows_tokens rule.left ++ token.Arrow ∷ (rows_tokens rule.right ++ map token.Command rule.commands)))

-- the words for directions that may stand before the rows
abbrev pub is_direction : Lead Class → Bool
is_direction (lead.Toward dir.Action) = false
is_direction (lead.Toward direction) = true
is_direction (lead.OneOf class.Horizontal) = true
is_direction (lead.OneOf class.Vertical) = true
is_direction (lead.OneOf class.Orthogonal) = true
is_direction _ = false

abbrev pub is_prefix : Token → Bool
is_prefix token.Late = true
is_prefix (token.Lead lead) = is_direction lead
is_prefix _ = false

abbrev pub has_cells : List Cell → Bool
has_cells [] = false
has_cells (c ∷ cells) = true

abbrev pub has_rows : List (List Cell) → Bool
has_rows [] = false
has_rows (row ∷ rows) = true

-- each prefix may stand there, the left has a row, and each row has a cell
abbrev pub is_whole : Rule → Bool
is_whole rule =
    list_all is_prefix rule.prefixes && (has_rows rule.left && (list_all has_cells rule.left && list_all has_cells rule.right))

-- these tokens are the rule
abbrev pub IsWritten : List Token → Rule → Type 0
IsWritten tokens rule = (tokens_of_rule rule ≡ tokens) × (is_whole rule ≡ true)

-- these tokens are no rule
abbrev pub IsNoRule : List Token → Type 0
IsNoRule tokens = (rule : Rule) → IsWritten tokens rule → ⊥
