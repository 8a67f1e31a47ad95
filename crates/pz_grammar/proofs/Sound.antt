-- A rule that is read is written so.
use Rattle.std.proofs.Common.{◌≡◌, Bool, true, false, ◌&&◌, List, [], ◌∷◌, ◌++◌, map, Option, Some, None, IfSome, option_map, if◌then◌else◌, refl, ap, ◌∙◌, append_assoc}
use Rattle.std.specs.List.{list_all}
use Rattle.std.proofs.lemmas.Bool.{and_from}
use Rattle.pz_grammar.specs.declared.token.Class.{Class}
use Rattle.pz_grammar.specs.declared.token.Lead.{Lead}
use Rattle.pz_grammar.specs.declared.token.Command.{Command}
use Rattle.pz_grammar.specs.declared.token.Token.{Token}
use Rattle.pz_grammar.specs.declared.token.Token.TheVariants as token
use Rattle.pz_grammar.specs.declared.rule.Phrase.{Phrase}
use Rattle.pz_grammar.specs.declared.rule.Cell.{Cell}
use Rattle.pz_grammar.specs.declared.rule.Cell.TheVariants as cell
use Rattle.pz_grammar.specs.Written.{phrase_tokens, cells_tokens, rows_tokens, joined_tokens, has_cells, is_prefix, IsWritten}
use Rattle.pz_grammar.specs.Parsed.{Seen, Within, phrase_before, with_phrase, gap_before, with_gap, with_bar, with_close, with_open, outside, inside, led, commands_of, begins_joined, after_joined, prefixes_of, after_prefixes, with_commands, with_right, after_arrow, with_arrow, with_rows, with_left, rule_of_tokens}

abbrev seen_tokens : Seen → List Token
seen_tokens s = rows_tokens s.rows ++ s.rest

abbrev within_tokens : Cell → List Cell → Seen → List Token
within_tokens c cells s = cells_tokens c cells ++ seen_tokens s

abbrev SeenIs : List Token → Seen → Type 0
SeenIs ts s = (seen_tokens s ≡ ts) × (list_all has_cells s.rows ≡ true)

abbrev WithinIs : List Token → Within → Type 0
WithinIs ts w = (within_tokens w.cell w.cells w.seen ≡ ts) × (list_all has_cells w.seen.rows ≡ true)

-- a phrase before the tokens of a cell
phrase-tokens : (p : Phrase) (ps : List Phrase) (cells : List Cell) (s : Seen) → within_tokens (cell.Items (p ∷ ps)) cells s ≡ phrase_tokens p ++ within_tokens (cell.Items ps) cells s
phrase-tokens p ps [] s = simp append_assoc
phrase-tokens p ps (next ∷ cells) s = simp append_assoc

sound-phrase_before : (p : Phrase) (ts : List Token) (c : Cell) (cells : List Cell) (s : Seen) → within_tokens c cells s ≡ ts → list_all has_cells s.rows ≡ true → IfSome (phrase_before p c cells s) (WithinIs (phrase_tokens p ++ ts))
sound-phrase_before p ts cell.Gap cells s e h = tt
sound-phrase_before p ts (cell.Items ps) cells s e h = (phrase-tokens p ps cells s ∙ ap (λ l. phrase_tokens p ++ l) e, h)

sound-with_phrase : (p : Phrase) (ts : List Token) (o : Option Within) → IfSome o (WithinIs ts) → IfSome (with_phrase p o) (WithinIs (phrase_tokens p ++ ts))
sound-with_phrase p ts None h = tt
sound-with_phrase p ts (Some w) h = sound-phrase_before p ts w.cell w.cells w.seen h.0 h.1

sound-gap_before : (ts : List Token) (c : Cell) (cells : List Cell) (s : Seen) → within_tokens c cells s ≡ ts → list_all has_cells s.rows ≡ true → IfSome (gap_before c cells s) (WithinIs (token.Gap ∷ ts))
sound-gap_before ts cell.Gap cells s e h = tt
sound-gap_before ts (cell.Items (p ∷ ps)) cells s e h = tt
sound-gap_before ts (cell.Items []) [] s e h = (ap (λ l. token.Gap ∷ l) e, h)
sound-gap_before ts (cell.Items []) (next ∷ cells) s e h = (ap (λ l. token.Gap ∷ l) e, h)

sound-with_gap : (ts : List Token) (o : Option Within) → IfSome o (WithinIs ts) → IfSome (with_gap o) (WithinIs (token.Gap ∷ ts))
sound-with_gap ts None h = tt
sound-with_gap ts (Some w) h = sound-gap_before ts w.cell w.cells w.seen h.0 h.1

sound-with_bar : (ts : List Token) (o : Option Within) → IfSome o (WithinIs ts) → IfSome (with_bar o) (WithinIs (token.Bar ∷ ts))
sound-with_bar ts None h = tt
sound-with_bar ts (Some w) h = (ap (λ l. token.Bar ∷ l) h.0, h.1)

sound-with_close : (ts : List Token) (o : Option Seen) → IfSome o (SeenIs ts) → IfSome (with_close o) (WithinIs (token.Close ∷ ts))
sound-with_close ts None h = tt
sound-with_close ts (Some s) h = (ap (λ l. token.Close ∷ l) h.0, h.1)

sound-with_open : (ts : List Token) (o : Option Within) → IfSome o (WithinIs ts) → IfSome (with_open o) (SeenIs (token.Open ∷ ts))
sound-with_open ts None h = tt
sound-with_open ts (Some w) h = (ap (λ l. token.Open ∷ l) (append_assoc (cells_tokens w.cell w.cells) (rows_tokens w.seen.rows) w.seen.rest ∙ h.0), h.1)

mutual
  unfolding outside inside led

  pub sound-outside : (ts : List Token) → IfSome (outside ts) (SeenIs ts)
  sound-outside [] = (refl, refl)
  sound-outside (token.Open ∷ ts) = sound-with_open ts (inside ts) (sound-inside ts)
  sound-outside (t ∷ ts) = (refl, refl)

  sound-inside : (ts : List Token) → IfSome (inside ts) (WithinIs ts)
  sound-inside [] = tt
  sound-inside (token.Name name ∷ ts) = sound-with_phrase (record { lead = None; name = name }) ts (inside ts) (sound-inside ts)
  sound-inside (token.Lead lead ∷ ts) = sound-led lead ts
  sound-inside (token.Gap ∷ ts) = sound-with_gap ts (inside ts) (sound-inside ts)
  sound-inside (token.Bar ∷ ts) = sound-with_bar ts (inside ts) (sound-inside ts)
  sound-inside (token.Close ∷ ts) = sound-with_close ts (outside ts) (sound-outside ts)
  sound-inside (t ∷ ts) = tt

  sound-led : (lead : Lead Class) (ts : List Token) → IfSome (led lead ts) (WithinIs (token.Lead lead ∷ ts))
  sound-led lead [] = tt
  sound-led lead (token.Name name ∷ ts) = sound-with_phrase (record { lead = Some lead; name = name }) ts (inside ts) (sound-inside ts)
  sound-led lead (t ∷ ts) = tt

joined-parts : (ts : List Token) → joined_tokens (begins_joined ts) ++ after_joined ts ≡ ts
joined-parts [] = refl
joined-parts (token.Plus ∷ ts) = refl
joined-parts (t ∷ ts) = refl

prefix-parts : (ts : List Token) → prefixes_of ts ++ after_prefixes ts ≡ ts
unfolding prefixes_of after_prefixes
prefix-parts [] = refl
prefix-parts (t ∷ ts) =
    let by : (b : Bool) → (if b then t ∷ prefixes_of ts else []) ++ (if b then after_prefixes ts else t ∷ ts) ≡ t ∷ ts = λ b. elim b as (λ b. (if b then t ∷ prefixes_of ts else []) ++ (if b then after_prefixes ts else t ∷ ts) ≡ t ∷ ts) [ true ↦ ap (λ l. t ∷ l) (prefix-parts ts) | false ↦ refl ] in
    by (is_prefix t)

prefix-each : (ts : List Token) → list_all is_prefix (prefixes_of ts) ≡ true
unfolding prefixes_of
prefix-each [] = refl
prefix-each (t ∷ ts) =
    let by : (b : Bool) → is_prefix t ≡ b → list_all is_prefix (if b then t ∷ prefixes_of ts else []) ≡ true = λ b. elim b as (λ b. is_prefix t ≡ b → list_all is_prefix (if b then t ∷ prefixes_of ts else []) ≡ true) [ true ↦ λ e. and_from (is_prefix t) (list_all is_prefix (prefixes_of ts)) e (prefix-each ts) | false ↦ λ e. refl ] in
    by (is_prefix t) refl

sound-more_commands : (command : Command) (ts : List Token) (o : Option (List Command)) → IfSome o (λ cs. map token.Command cs ≡ ts) → IfSome (option_map (λ cs. command ∷ cs) o) (λ cs. map token.Command cs ≡ token.Command command ∷ ts)
sound-more_commands command ts None h = tt
sound-more_commands command ts (Some cs) h = ap (λ l. token.Command command ∷ l) h

sound-commands : (ts : List Token) → IfSome (commands_of ts) (λ cs. map token.Command cs ≡ ts)
unfolding commands_of
sound-commands [] = refl
sound-commands (token.Command command ∷ ts) = sound-more_commands command ts (commands_of ts) (sound-commands ts)
sound-commands (t ∷ ts) = tt

sound-with_commands : (all : List Token) (j : Bool) (ps : List Token) (row : List Cell) (rows right : List (List Cell)) (ts : List Token) (o : Option (List Command))
    → joined_tokens j ++ (ps ++ (rows_tokens (row ∷ rows) ++ token.Arrow ∷ (rows_tokens right ++ ts))) ≡ all
    → list_all is_prefix ps ≡ true → list_all has_cells (row ∷ rows) ≡ true → list_all has_cells right ≡ true
    → IfSome o (λ cs. map token.Command cs ≡ ts) → IfSome (with_commands j ps (row ∷ rows) right o) (IsWritten all)
sound-with_commands all j ps row rows right ts None e p l r h = tt
sound-with_commands all j ps row rows right ts (Some cs) e p l r h = (
  ap (λ x. joined_tokens j ++ (ps ++ (rows_tokens (row ∷ rows) ++ token.Arrow ∷ (rows_tokens right ++ x)))) h ∙ e,
  and_from (list_all is_prefix ps) (list_all has_cells (row ∷ rows) && list_all has_cells right) p (and_from (list_all has_cells (row ∷ rows)) (list_all has_cells right) l r),
)

sound-with_right : (all : List Token) (j : Bool) (ps : List Token) (row : List Cell) (rows : List (List Cell)) (ts : List Token) (o : Option Seen)
    → joined_tokens j ++ (ps ++ (rows_tokens (row ∷ rows) ++ token.Arrow ∷ ts)) ≡ all
    → list_all is_prefix ps ≡ true → list_all has_cells (row ∷ rows) ≡ true
    → IfSome o (SeenIs ts) → IfSome (with_right j ps (row ∷ rows) o) (IsWritten all)
sound-with_right all j ps row rows ts None e p l h = tt
sound-with_right all j ps row rows ts (Some s) e p l h =
    sound-with_commands all j ps row rows s.rows s.rest (commands_of s.rest) (ap (λ x. joined_tokens j ++ (ps ++ (rows_tokens (row ∷ rows) ++ token.Arrow ∷ x))) h.0 ∙ e) p l h.1 (sound-commands s.rest)

sound-with_arrow : (all : List Token) (j : Bool) (ps : List Token) (row : List Cell) (rows : List (List Cell)) (rest : List Token)
    → joined_tokens j ++ (ps ++ (rows_tokens (row ∷ rows) ++ rest)) ≡ all
    → list_all is_prefix ps ≡ true → list_all has_cells (row ∷ rows) ≡ true
    → IfSome (with_arrow j ps (row ∷ rows) (after_arrow rest)) (IsWritten all)
sound-with_arrow all j ps row rows [] e p l = tt
sound-with_arrow all j ps row rows (token.Arrow ∷ ts) e p l = sound-with_right all j ps row rows ts (outside ts) e p l (sound-outside ts)
sound-with_arrow all j ps row rows (t ∷ ts) e p l = tt

sound-with_rows : (all : List Token) (j : Bool) (ps : List Token) (rows : List (List Cell)) (rest : List Token)
    → joined_tokens j ++ (ps ++ (rows_tokens rows ++ rest)) ≡ all
    → list_all is_prefix ps ≡ true → list_all has_cells rows ≡ true
    → IfSome (with_rows j ps rows rest) (IsWritten all)
sound-with_rows all j ps [] rest e p l = tt
sound-with_rows all j ps (row ∷ rows) rest e p l = sound-with_arrow all j ps row rows rest e p l

sound-with_left : (all : List Token) (j : Bool) (ps ts : List Token) (o : Option Seen)
    → joined_tokens j ++ (ps ++ ts) ≡ all → list_all is_prefix ps ≡ true → IfSome o (SeenIs ts) → IfSome (with_left j ps o) (IsWritten all)
sound-with_left all j ps ts None e p h = tt
sound-with_left all j ps ts (Some s) e p h = sound-with_rows all j ps s.rows s.rest (ap (λ x. joined_tokens j ++ (ps ++ x)) h.0 ∙ e) p h.1

-- a rule that is read is written so
pub sound : (ts : List Token) → IfSome (rule_of_tokens ts) (IsWritten ts)
unfolding rule_of_tokens
sound ts =
    let us = after_joined ts in
    sound-with_left ts (begins_joined ts) (prefixes_of us) (after_prefixes us) (outside (after_prefixes us))
    (ap (λ x. joined_tokens (begins_joined ts) ++ x) (prefix-parts us) ∙ joined-parts ts) (prefix-each us) (sound-outside (after_prefixes us))
