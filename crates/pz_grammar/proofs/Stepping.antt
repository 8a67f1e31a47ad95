-- Reading goes on as what is left says.
use Rattle.std.proofs.Common.{◌≡◌, true, List, [], ◌∷◌, ◌++◌, Option, Some, None, refl, ap, sym, ◌∙◌, append_assoc}
use Rattle.std.proofs.lemmas.List.{append-nil}
use Rattle.std.proofs.lemmas.Bool.{false≢true}
use Rattle.pz_grammar.specs.Written.{has_cells}
use Rattle.pz_grammar.specs.declared.token.Token.{Token}
use Rattle.pz_grammar.specs.declared.token.Token.TheVariants as token
use Rattle.pz_grammar.specs.declared.rule.Phrase.{Phrase}
use Rattle.pz_grammar.specs.declared.rule.Cell.{Cell}
use Rattle.pz_grammar.specs.declared.rule.Cell.TheVariants as cell
use Rattle.pz_grammar.specs.Parsed.{Seen, Within, with_phrase, phrase_before, with_gap, gap_before, with_bar, with_close, with_open, end, inside, outside}
use Rattle.pz_grammar.specs.Steps.{cell_of_parts, prepend, placed, before, whole_row, row_before, rows_before, after_open}

abbrev placed_cell : List Cell → Cell → Cell → List Cell → Seen → Option Within
placed_cell cells c d cs s = placed cells cs s (cell_of_parts c d)

start-cell : (c : Cell) (cs : List Cell) (s : Seen) → placed_cell [] (cell.Items []) c cs s ≡ Some (record { cell = c; cells = cs; seen = s })
start-cell cell.Gap cs s = refl
start-cell (cell.Items ps) cs s = refl

pub before-start : (o : Option Within) → before [] (cell.Items []) o ≡ o
before-start None = refl
before-start (Some w) = start-cell w.cell w.cells w.seen

gap-after : (cells : List Cell) (ps : List Phrase) (p : Phrase) (cs : List Cell) (s : Seen) → placed_cell cells (cell.Items (ps ++ p ∷ [])) cell.Gap cs s ≡ None
gap-after cells [] p cs s = refl
gap-after cells (q ∷ ps) p cs s = refl

phrase-cell : (cells : List Cell) (ps : List Phrase) (p : Phrase) (d : Cell) (cs : List Cell) (s : Seen)
    → placed_cell cells (cell.Items (ps ++ p ∷ [])) d cs s ≡ before cells (cell.Items ps) (phrase_before p d cs s)
phrase-cell cells ps p cell.Gap cs s = gap-after cells ps p cs s
phrase-cell cells ps p (cell.Items qs) cs s = ap (λ l. Some (prepend cells (cell.Items l) cs s)) (append_assoc ps (p ∷ []) qs)

pub before-phrase : (cells : List Cell) (ps : List Phrase) (p : Phrase) (o : Option Within)
    → before cells (cell.Items (ps ++ p ∷ [])) o ≡ before cells (cell.Items ps) (with_phrase p o)
before-phrase cells ps p None = refl
before-phrase cells ps p (Some w) = phrase-cell cells ps p w.cell w.cells w.seen

gapped-cell : (cells : List Cell) (p : Phrase) (d : Cell) (cs : List Cell) (s : Seen) → None ≡ before cells cell.Gap (phrase_before p d cs s)
gapped-cell cells p cell.Gap cs s = refl
gapped-cell cells p (cell.Items qs) cs s = refl

pub before-gapped : (cells : List Cell) (p : Phrase) (o : Option Within) → None ≡ before cells cell.Gap (with_phrase p o)
before-gapped cells p None = refl
before-gapped cells p (Some w) = gapped-cell cells p w.cell w.cells w.seen

gap-cell : (cells : List Cell) (d : Cell) (cs : List Cell) (s : Seen) → placed_cell cells cell.Gap d cs s ≡ before cells (cell.Items []) (gap_before d cs s)
gap-cell cells cell.Gap cs s = refl
gap-cell cells (cell.Items []) cs s = refl
gap-cell cells (cell.Items (q ∷ qs)) cs s = refl

pub before-gap : (cells : List Cell) (o : Option Within) → before cells cell.Gap o ≡ before cells (cell.Items []) (with_gap o)
before-gap cells None = refl
before-gap cells (Some w) = gap-cell cells w.cell w.cells w.seen

no_gap-cell : (cells : List Cell) (p : Phrase) (ps : List Phrase) (d : Cell) (cs : List Cell) (s : Seen) → None ≡ before cells (cell.Items (p ∷ ps)) (gap_before d cs s)
no_gap-cell cells p ps cell.Gap cs s = refl
no_gap-cell cells p ps (cell.Items []) cs s = refl
no_gap-cell cells p ps (cell.Items (q ∷ qs)) cs s = refl

pub before-no_gap : (cells : List Cell) (p : Phrase) (ps : List Phrase) (o : Option Within) → None ≡ before cells (cell.Items (p ∷ ps)) (with_gap o)
before-no_gap cells p ps None = refl
before-no_gap cells p ps (Some w) = no_gap-cell cells p ps w.cell w.cells w.seen

two_gaps-cell : (cells : List Cell) (d : Cell) (cs : List Cell) (s : Seen) → None ≡ before cells cell.Gap (gap_before d cs s)
two_gaps-cell cells cell.Gap cs s = refl
two_gaps-cell cells (cell.Items []) cs s = refl
two_gaps-cell cells (cell.Items (q ∷ qs)) cs s = refl

pub before-two_gaps : (cells : List Cell) (o : Option Within) → None ≡ before cells cell.Gap (with_gap o)
before-two_gaps cells None = refl
before-two_gaps cells (Some w) = two_gaps-cell cells w.cell w.cells w.seen

closed-cell : (c : Cell) → cell_of_parts c (cell.Items []) ≡ Some c
closed-cell cell.Gap = refl
closed-cell (cell.Items ps) = ap (λ l. Some (cell.Items l)) (append-nil ps)

fresh-cell : (c : Cell) → cell_of_parts (cell.Items []) c ≡ Some c
fresh-cell cell.Gap = refl
fresh-cell (cell.Items ps) = refl

pushed-cells : (cells : List Cell) (c d : Cell) (cs : List Cell) (s : Seen) → prepend (cells ++ c ∷ []) d cs s ≡ prepend cells c (d ∷ cs) s
pushed-cells [] c d cs s = refl
pushed-cells (e ∷ cells) c d cs s = ap (λ l. record { cell = e; cells = l; seen = s }) (append_assoc cells (c ∷ []) (d ∷ cs))

pub before-bar : (cells : List Cell) (c : Cell) (o : Option Within) → before (cells ++ c ∷ []) (cell.Items []) o ≡ before cells c (with_bar o)
before-bar cells c None = refl
before-bar cells c (Some w) =
    ap (placed (cells ++ c ∷ []) w.cells w.seen) (fresh-cell w.cell)
    ∙ ap Some (pushed-cells cells c w.cell w.cells w.seen)
    ∙ sym (ap (placed cells (w.cell ∷ w.cells) w.seen) (closed-cell c))

ended-row : (cells : List Cell) (c : Cell) (s : Seen) → whole_row (cells ++ c ∷ []) s ≡ Some (prepend cells c [] s)
ended-row [] c s = refl
ended-row (d ∷ cells) c s = refl

pub before-close : (cells : List Cell) (c : Cell) (o : Option Seen) → row_before (cells ++ c ∷ []) o ≡ before cells c (with_close o)
before-close cells c None = refl
before-close cells c (Some s) = ended-row cells c s ∙ sym (ap (placed cells [] s) (closed-cell c))

pub not-open : (ts : List Token) → after_open ts ≡ None → outside ts ≡ end ts
unfolding outside
not-open [] e = refl
not-open (token.Open ∷ ts) e = absurd (cc)
not-open (t ∷ ts) e = refl

pub is-open : (ts us : List Token) → after_open ts ≡ Some us → outside ts ≡ with_open (inside us)
unfolding outside
is-open (token.Open ∷ ts) us e = let f : ts ≡ us = cc in ap (λ l. with_open (inside l)) f
is-open [] us e = absurd (cc)
is-open (t ∷ ts) us e = absurd (cc)

pub rows-start : (o : Option Seen) → rows_before [] o ≡ o
rows-start None = refl
rows-start (Some s) = refl

-- rows are read on where one begins
pub rows-push : (rows : List (List Cell)) (row : List Cell) (o : Option Seen) → has_cells row ≡ true → rows_before (rows ++ row ∷ []) o ≡ rows_before rows (with_open (row_before row o))
rows-push rows [] o h = absurd (false≢true h)
rows-push rows (c ∷ cs) None h = refl
rows-push rows (c ∷ cs) (Some s) h = ap (λ l. Some (record { rows = l; rest = s.rest })) (append_assoc rows ((c ∷ cs) ∷ []) s.rows)

pub rows-next : (rows : List (List Cell)) (row : List Cell) (ts us vs : List Token) → after_open ts ≡ Some us → inside us ≡ row_before row (outside vs) → has_cells row ≡ true → rows_before (rows ++ row ∷ []) (outside vs) ≡ rows_before rows (outside ts)
rows-next rows row ts us vs open_at read h = rows-push rows row (outside vs) h ∙ ap (λ o. rows_before rows (with_open o)) (sym read) ∙ sym (ap (rows_before rows) (is-open ts us open_at))

pub rows-none : (rows : List (List Cell)) (ts us : List Token) → after_open ts ≡ Some us → inside us ≡ None → rows_before rows (outside ts) ≡ None
rows-none rows ts us open_at none = ap (rows_before rows) (is-open ts us open_at ∙ ap with_open none)

pub rows-last : (rows : List (List Cell)) (ts : List Token) → after_open ts ≡ None → rows_before rows (outside ts) ≡ Some (record { rows = rows; rest = ts })
rows-last rows ts none = ap (rows_before rows) (not-open ts none) ∙ ap (λ l. Some (record { rows = l; rest = ts })) (append-nil rows)

pub has_cells-push : (cells : List Cell) (c : Cell) → has_cells (cells ++ c ∷ []) ≡ true
has_cells-push [] c = refl
has_cells-push (d ∷ cells) c = refl

pub ruleset rowing = (rows-start, rows-next, rows-none, rows-last)

pub ruleset stepping = (before-start, before-phrase, before-gapped, before-gap, before-no_gap, before-two_gaps, before-bar, before-close, has_cells-push)
