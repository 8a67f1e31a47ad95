-- What has been read of a row, before what is left of it.
use Rattle.std.specs.Prelude.{◌≡◌, ◌≤◌, ℕ, true, List, [], ◌∷◌, ◌++◌, Option, Some, None, length}
use Rattle.pz_grammar.specs.declared.token.Token.{Token}
use Rattle.pz_grammar.specs.declared.token.Token.TheVariants as token
use Rattle.pz_grammar.specs.declared.rule.Cell.{Cell}
use Rattle.pz_grammar.specs.declared.rule.Cell.TheVariants as cell
use Rattle.pz_grammar.specs.declared.rows.Step.{Step}
use Rattle.pz_grammar.specs.declared.rows.Step.TheVariants.{Going, Ended, Refused}
use Rattle.pz_grammar.specs.Written.{has_cells}
use Rattle.pz_grammar.specs.Parsed.{Seen, Within, inside, outside}

-- one cell of its two parts
abbrev pub cell_of_parts : Cell → Cell → Option Cell
cell_of_parts (cell.Items ps) (cell.Items qs) = Some (cell.Items (ps ++ qs))
cell_of_parts (cell.Items []) cell.Gap = Some cell.Gap
cell_of_parts (cell.Items (p ∷ ps)) cell.Gap = None
cell_of_parts cell.Gap (cell.Items []) = Some cell.Gap
cell_of_parts cell.Gap (cell.Items (q ∷ qs)) = None
cell_of_parts cell.Gap cell.Gap = None

abbrev pub prepend : List Cell → Cell → List Cell → Seen → Within
prepend [] c cs s = record { cell = c; cells = cs; seen = s }
prepend (d ∷ ds) c cs s = record { cell = d; cells = ds ++ c ∷ cs; seen = s }

abbrev pub placed : List Cell → List Cell → Seen → Option Cell → Option Within
placed cells cs s None = None
placed cells cs s (Some c) = Some (prepend cells c cs s)

-- ended cells and the first part of a cell, before what is left of the row
abbrev pub before : List Cell → Cell → Option Within → Option Within
before cells c None = None
before cells c (Some w) = placed cells w.cells w.seen (cell_of_parts c w.cell)

abbrev pub whole_row : List Cell → Seen → Option Within
whole_row [] s = None
whole_row (c ∷ cs) s = Some (record { cell = c; cells = cs; seen = s })

-- a row before what follows it
abbrev pub row_before : List Cell → Option Seen → Option Within
row_before cells None = None
row_before cells (Some s) = whole_row cells s

-- rows before what follows them
abbrev pub rows_before : List (List Cell) → Option Seen → Option Seen
rows_before rows None = None
rows_before rows (Some s) = Some (record { rows = rows ++ s.rows; rest = s.rest })

abbrev pub StepIs : Option Within → Step → Type 0
StepIs o (Going row rest) = before row.cells row.cell (inside rest.now) ≡ o
StepIs o (Ended cells rest) = row_before cells (outside rest.now) ≡ o
StepIs o Refused = None ≡ o

abbrev pub StepFits : ℕ → Step → Type 0
StepFits n (Going row rest) = length rest.now ≤ n
StepFits n (Ended cells rest) = (length rest.now ≤ n) × (has_cells cells ≡ true)
StepFits n Refused = Unit {0}

abbrev pub after_open : List Token → Option (List Token)
after_open (token.Open ∷ ts) = Some ts
after_open _ = None
