-- The rule of a line, token by token.
use Rattle.std.specs.Prelude.{Bool, true, false, List, [], ◌∷◌, map, Option, Some, None, if◌then◌else◌}
use Rattle.pz_base.specs.Each.{all_some}
use Rattle.pz_grammar.specs.declared.token.Class.{Class}
use Rattle.pz_grammar.specs.declared.token.Lead.{Lead}
use Rattle.pz_grammar.specs.declared.token.Command.{Command}
use Rattle.pz_grammar.specs.declared.token.Token.{Token}
use Rattle.pz_grammar.specs.declared.token.Token.TheVariants as token
use Rattle.pz_grammar.specs.declared.rule.Phrase.{Phrase}
use Rattle.pz_grammar.specs.declared.rule.Cell.{Cell}
use Rattle.pz_grammar.specs.declared.rule.Cell.TheVariants as cell
use Rattle.pz_grammar.specs.declared.rule.Rule.{Rule}
use Rattle.pz_grammar.specs.Written.{is_prefix}

-- the rows that tokens begin with, and what follows them
pub record Seen : Type 0 where
  pub rows : List (List Cell)
  pub rest : List Token

-- inside a row: what is left of its cell, its further cells, and what follows the row
pub record Within : Type 0 where
  pub cell : Cell
  pub cells : List Cell
  pub seen : Seen

abbrev pub phrase_before : Phrase → Cell → List Cell → Seen → Option Within
phrase_before phrase cell.Gap cells seen = None
phrase_before phrase (cell.Items phrases) cells seen = Some (record { cell = cell.Items (phrase ∷ phrases); cells = cells; seen = seen })

-- rules.cells
abbrev pub with_phrase : Phrase → Option Within → Option Within
with_phrase phrase None = None
with_phrase phrase (Some w) = phrase_before phrase w.cell w.cells w.seen

-- a gap stands alone in its cell
abbrev pub gap_before : Cell → List Cell → Seen → Option Within
gap_before (cell.Items []) cells seen = Some (record { cell = cell.Gap; cells = cells; seen = seen })
gap_before (cell.Items (phrase ∷ phrases)) cells seen = None
gap_before cell.Gap cells seen = None

abbrev pub with_gap : Option Within → Option Within
with_gap None = None
with_gap (Some w) = gap_before w.cell w.cells w.seen

abbrev pub with_bar : Option Within → Option Within
with_bar None = None
with_bar (Some w) = Some (record { cell = cell.Items []; cells = w.cell ∷ w.cells; seen = w.seen })

abbrev pub with_close : Option Seen → Option Within
with_close None = None
with_close (Some s) = Some (record { cell = cell.Items []; cells = []; seen = s })

abbrev pub with_open : Option Within → Option Seen
with_open None = None
with_open (Some w) = Some (record { rows = (w.cell ∷ w.cells) ∷ w.seen.rows; rest = w.seen.rest })

abbrev pub end : List Token → Option Seen
end tokens = Some (record { rows = []; rest = tokens })

unfoldable mutual
  -- rows, up to the first token that begins none
  pub outside : List Token → Option Seen
  outside [] = end []
  outside (token.Open ∷ ts) = with_open (inside ts)
  outside (t ∷ ts) = end (t ∷ ts)

  -- what is left of a row
  pub inside : List Token → Option Within
  inside [] = None
  inside (token.Name name ∷ ts) = with_phrase (record { lead = None; name = name }) (inside ts)
  inside (token.Lead lead ∷ ts) = led lead ts
  inside (token.Gap ∷ ts) = with_gap (inside ts)
  inside (token.Bar ∷ ts) = with_bar (inside ts)
  inside (token.Close ∷ ts) = with_close (outside ts)
  inside (t ∷ ts) = None

  -- a name, after the word before it
  pub led : Lead Class → List Token → Option Within
  led lead [] = None
  led lead (token.Name name ∷ ts) = with_phrase (record { lead = Some lead; name = name }) (inside ts)
  led lead (t ∷ ts) = None

abbrev pub command_of : Token → Option Command
command_of (token.Command command) = Some command
command_of _ = None

-- rules.commands: only commands
unfoldable pub commands_of : List Token → Option (List Command)
commands_of tokens = all_some (map command_of tokens)

-- rules.prefixes: a first `+` joins the rule to the group above
abbrev pub begins_joined : List Token → Bool
begins_joined (token.Plus ∷ ts) = true
begins_joined _ = false

abbrev pub after_joined : List Token → List Token
after_joined (token.Plus ∷ ts) = ts
after_joined ts = ts

-- rules.prefixes
unfoldable pub prefixes_of : List Token → List Token
prefixes_of [] = []
prefixes_of (t ∷ ts) = if is_prefix t then t ∷ prefixes_of ts else []

unfoldable pub after_prefixes : List Token → List Token
after_prefixes [] = []
after_prefixes (t ∷ ts) = if is_prefix t then after_prefixes ts else t ∷ ts

abbrev pub with_commands : Bool → List Token → List (List Cell) → List (List Cell) → Option (List Command) → Option Rule
with_commands is_joined prefixes left right None = None
with_commands is_joined prefixes left right (Some commands) =
    Some (record { is_joined = is_joined; prefixes = prefixes; left = left; right = right; commands = commands })

abbrev pub with_right : Bool → List Token → List (List Cell) → Option Seen → Option Rule
with_right is_joined prefixes left None = None
with_right is_joined prefixes left (Some s) = with_commands is_joined prefixes left s.rows (commands_of s.rest)

abbrev pub after_arrow : List Token → Option (List Token)
after_arrow (token.Arrow ∷ ts) = Some ts
after_arrow _ = None

abbrev pub with_arrow : Bool → List Token → List (List Cell) → Option (List Token) → Option Rule
with_arrow is_joined prefixes left None = None
with_arrow is_joined prefixes left (Some ts) = with_right is_joined prefixes left (outside ts)

abbrev pub with_rows : Bool → List Token → List (List Cell) → List Token → Option Rule
with_rows is_joined prefixes [] rest = None
with_rows is_joined prefixes (row ∷ rows) rest = with_arrow is_joined prefixes (row ∷ rows) (after_arrow rest)

abbrev pub with_left : Bool → List Token → Option Seen → Option Rule
with_left is_joined prefixes None = None
with_left is_joined prefixes (Some s) = with_rows is_joined prefixes s.rows s.rest

-- rules.form: the rule of a line, if it has one
unfoldable pub rule_of_tokens : List Token → Option Rule
rule_of_tokens tokens =
    let ts = after_joined tokens in
    with_left (begins_joined tokens) (prefixes_of ts) (outside (after_prefixes ts))
