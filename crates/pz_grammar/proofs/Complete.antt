-- What a rule is written as is read as that rule.
use Rattle.std.proofs.Common.{◌≡◌, ℕ, Bool, true, false, ◌&&◌, List, [], ◌∷◌, ◌++◌, map, Option, Some, None, IfSome, MatchOption, option_map, if◌then◌else◌, refl, ap, sym, ◌∙◌, append_assoc}
use Rattle.std.specs.List.{flat_map, list_all}
use Rattle.std.proofs.lemmas.Bool.{and_parts, false≢true}
use Rattle.pz_grammar.specs.declared.token.Class.{Class}
use Rattle.pz_grammar.specs.declared.token.Lead.{Lead}
use Rattle.pz_grammar.specs.declared.token.Command.{Command}
use Rattle.pz_grammar.specs.declared.token.Token.{Token}
use Rattle.pz_grammar.specs.declared.token.Token.TheVariants as token
use Rattle.pz_grammar.specs.declared.rule.Phrase.{Phrase}
use Rattle.pz_grammar.specs.declared.rule.Cell.{Cell}
use Rattle.pz_grammar.specs.declared.rule.Cell.TheVariants as cell
use Rattle.pz_grammar.specs.declared.rule.Rule.{Rule}
use Rattle.pz_grammar.specs.Written.{phrase_tokens, cell_tokens, cells_tokens, rows_tokens, joined_tokens, has_cells, has_rows, is_prefix, is_whole, tokens_of_rule, IsWritten, IsNoRule}
use Rattle.pz_grammar.specs.Parsed.{Seen, with_phrase, with_gap, with_bar, with_close, with_open, end, outside, inside, commands_of, begins_joined, after_joined, prefixes_of, after_prefixes, with_commands, with_right, with_rows, with_left, rule_of_tokens}
use Rattle.pz_grammar.proofs.Sound.{sound}

complete-phrase : (lead : Option (Lead Class)) (name : Option ℕ) (ps : List Phrase) (ts : List Token) (cells : List Cell) (s : Seen)
    → inside ts ≡ Some (record { cell = cell.Items ps; cells = cells; seen = s })
    → inside (phrase_tokens (record { lead = lead; name = name }) ++ ts) ≡ Some (record { cell = cell.Items (record { lead = lead; name = name } ∷ ps); cells = cells; seen = s })
unfolding inside
complete-phrase None name ps ts cells s h = ap (with_phrase (record { lead = None; name = name })) h
complete-phrase (Some lead) name ps ts cells s h = ap (with_phrase (record { lead = Some lead; name = name })) h

complete-phrases : (ps : List Phrase) (ts : List Token) (cells : List Cell) (s : Seen)
    → inside ts ≡ Some (record { cell = cell.Items []; cells = cells; seen = s })
    → inside (flat_map phrase_tokens ps ++ ts) ≡ Some (record { cell = cell.Items ps; cells = cells; seen = s })
complete-phrases [] ts cells s h = h
complete-phrases (p ∷ ps) ts cells s h =
    ap inside (append_assoc (phrase_tokens p) (flat_map phrase_tokens ps) ts)
    ∙ complete-phrase p.lead p.name ps (flat_map phrase_tokens ps ++ ts) cells s (complete-phrases ps ts cells s h)

complete-cell : (c : Cell) (ts : List Token) (cells : List Cell) (s : Seen)
    → inside ts ≡ Some (record { cell = cell.Items []; cells = cells; seen = s })
    → inside (cell_tokens c ++ ts) ≡ Some (record { cell = c; cells = cells; seen = s })
unfolding inside
complete-cell cell.Gap ts cells s h = ap with_gap h
complete-cell (cell.Items ps) ts cells s h = complete-phrases ps ts cells s h

complete-cells : (c : Cell) (cs : List Cell) (s : Seen) (ts : List Token) → outside ts ≡ Some s
    → inside (cells_tokens c cs ++ ts) ≡ Some (record { cell = c; cells = cs; seen = s })
unfolding inside
complete-cells c [] s ts h =
    ap inside (append_assoc (cell_tokens c) (token.Close ∷ []) ts) ∙ complete-cell c (token.Close ∷ ts) [] s (ap with_close h)
complete-cells c (next ∷ cs) s ts h =
    ap inside (append_assoc (cell_tokens c) (token.Bar ∷ cells_tokens next cs) ts)
    ∙ complete-cell c (token.Bar ∷ (cells_tokens next cs ++ ts)) (next ∷ cs) s (ap with_bar (complete-cells next cs s ts h))

complete-rows : (rows : List (List Cell)) (ts : List Token) → list_all has_cells rows ≡ true → outside ts ≡ end ts
    → outside (rows_tokens rows ++ ts) ≡ Some (record { rows = rows; rest = ts })
unfolding outside
complete-rows [] ts each h = h
complete-rows ([] ∷ rows) ts each h = absurd (false≢true each)
complete-rows ((c ∷ cs) ∷ rows) ts each h =
    ap with_open
    (ap inside (append_assoc (cells_tokens c cs) (rows_tokens rows) ts)
    ∙ complete-cells c cs (record { rows = rows; rest = ts }) (rows_tokens rows ++ ts) (complete-rows rows ts each h))

complete-commands : (cs : List Command) → commands_of (map token.Command cs) ≡ Some cs
unfolding commands_of
complete-commands [] = refl
complete-commands (c ∷ cs) = ap (option_map (λ l. c ∷ l)) (complete-commands cs)

outside-commands : (cs : List Command) → outside (map token.Command cs) ≡ end (map token.Command cs)
unfolding outside
outside-commands [] = refl
outside-commands (c ∷ cs) = refl

complete-prefixes : (ps ts : List Token) → list_all is_prefix ps ≡ true → prefixes_of (ps ++ token.Open ∷ ts) ≡ ps
unfolding prefixes_of
complete-prefixes [] ts each = refl
complete-prefixes (p ∷ ps) ts each =
    let h = and_parts (is_prefix p) (list_all is_prefix ps) each in
    ap (λ b. if b then p ∷ prefixes_of (ps ++ token.Open ∷ ts) else []) h.0 ∙ ap (λ l. p ∷ l) (complete-prefixes ps ts h.1)

past-prefixes : (ps ts : List Token) → list_all is_prefix ps ≡ true → after_prefixes (ps ++ token.Open ∷ ts) ≡ token.Open ∷ ts
unfolding after_prefixes
past-prefixes [] ts each = refl
past-prefixes (p ∷ ps) ts each =
    let h = and_parts (is_prefix p) (list_all is_prefix ps) each in
    ap (λ b. if b then after_prefixes (ps ++ token.Open ∷ ts) else p ∷ (ps ++ token.Open ∷ ts)) h.0 ∙ past-prefixes ps ts h.1

unjoined : (ps ts : List Token) → list_all is_prefix ps ≡ true → (begins_joined (ps ++ token.Open ∷ ts) ≡ false) × (after_joined (ps ++ token.Open ∷ ts) ≡ ps ++ token.Open ∷ ts)
unjoined [] ts each = (refl, refl)
unjoined (token.Plus ∷ ps) ts each = absurd (false≢true each)
unjoined (p ∷ ps) ts each = (refl, refl)

complete-joined : (j : Bool) (ps ts : List Token) → list_all is_prefix ps ≡ true
    → (begins_joined (joined_tokens j ++ (ps ++ token.Open ∷ ts)) ≡ j) × (after_joined (joined_tokens j ++ (ps ++ token.Open ∷ ts)) ≡ ps ++ token.Open ∷ ts)
complete-joined true ps ts each = (refl, refl)
complete-joined false ps ts each = unjoined ps ts each

put : (b j : Bool) (p ps : List Token) (o : Option Seen) (s : Seen) → b ≡ j → p ≡ ps → o ≡ Some s → with_left b p o ≡ with_rows j ps s.rows s.rest
put b j p ps o s e f g = ap (λ x. with_left x p o) e ∙ ap (λ x. with_left j x o) f ∙ ap (with_left j ps) g

put_right : (j : Bool) (ps : List Token) (left right : List (List Cell)) (o : Option Seen) (cs : List Command)
    → o ≡ Some (record { rows = right; rest = map token.Command cs }) → with_right j ps left o ≡ Some (record { is_joined = j; prefixes = ps; left = left; right = right; commands = cs })
put_right j ps left right o cs e = ap (with_right j ps left) e ∙ ap (with_commands j ps left right) (complete-commands cs)

complete-rule : (j : Bool) (ps : List Token) (left right : List (List Cell)) (cs : List Command)
    → list_all is_prefix ps ≡ true → has_rows left ≡ true → list_all has_cells left ≡ true → list_all has_cells right ≡ true
    → rule_of_tokens (joined_tokens j ++ (ps ++ (rows_tokens left ++ token.Arrow ∷ (rows_tokens right ++ map token.Command cs)))) ≡ Some (record { is_joined = j; prefixes = ps; left = left; right = right; commands = cs })
unfolding rule_of_tokens outside
complete-rule j ps [] right cs p some l r = absurd (false≢true some)
complete-rule j ps ([] ∷ rows) right cs p some l r = absurd (false≢true l)
complete-rule j ps ((c ∷ cells) ∷ rows) right cs p some l r =
    let last = rows_tokens right ++ map token.Command cs in
    let row = (c ∷ cells) ∷ rows in
    let ts = (cells_tokens c cells ++ rows_tokens rows) ++ token.Arrow ∷ last in
    let first = complete-joined j ps ts p in
    put _ j _ ps _ (record { rows = row; rest = token.Arrow ∷ last })
    first.0
    (ap prefixes_of first.1 ∙ complete-prefixes ps ts p)
    (ap (λ x. outside (after_prefixes x)) first.1 ∙ ap outside (past-prefixes ps ts p) ∙ complete-rows row (token.Arrow ∷ last) l refl)
    ∙ put_right j ps row right (outside last) cs (complete-rows right (map token.Command cs) r (outside-commands cs))

pub complete : (rule : Rule) → is_whole rule ≡ true → rule_of_tokens (tokens_of_rule rule) ≡ Some rule
complete rule whole =
    let a = and_parts (list_all is_prefix rule.prefixes) (has_rows rule.left && (list_all has_cells rule.left && list_all has_cells rule.right)) whole in
    let b = and_parts (has_rows rule.left) (list_all has_cells rule.left && list_all has_cells rule.right) a.1 in
    let d = and_parts (list_all has_cells rule.left) (list_all has_cells rule.right) b.1 in
    complete-rule rule.is_joined rule.prefixes rule.left rule.right rule.commands a.0 b.0 d.0 d.1

-- reading is exact: a rule that is read is written so, and where none is read no rule is written so
pub exact : (ts : List Token) → MatchOption (rule_of_tokens ts) (IsNoRule ts) (IsWritten ts)
exact ts =
    let by : (o : Option Rule) → rule_of_tokens ts ≡ o → IfSome o (IsWritten ts) → MatchOption o (IsNoRule ts) (IsWritten ts) =
    λ o. elim o as (λ o. rule_of_tokens ts ≡ o → IfSome o (IsWritten ts) → MatchOption o (IsNoRule ts) (IsWritten ts)) [
      | None ↦ λ e h. λ rule is. let f : None ≡ Some rule = sym e ∙ ap rule_of_tokens (sym is.0) ∙ complete rule is.1 in cc
      | Some rule ↦ λ e h. h
    ] in
    by (rule_of_tokens ts) refl (sound ts)
