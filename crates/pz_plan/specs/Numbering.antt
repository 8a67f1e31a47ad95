-- The choices of a left side, in the order of its text, and its terms, which point at them.
use Rattle.std.specs.Prelude.{ℕ, Option, Some, None, ◌+◌, sum_by, List, [], ◌∷◌, ◌++◌, map, length}
use Rattle.std.specs.List.{flat_map, enumerate_from}
use Rattle.pz_grammar.specs.declared.token.Class.{Class}
use Rattle.pz_grammar.specs.declared.token.Lead.{Lead}
use Rattle.pz_grammar.specs.declared.token.Lead.TheVariants as lead
use Rattle.pz_plan.specs.declared.plan.Subject.{Subject}
use Rattle.pz_plan.specs.declared.plan.Subject.TheVariants as subject
use Rattle.pz_plan.specs.declared.plan.Mention.{Mention}
use Rattle.pz_plan.specs.declared.plan.PlanRow.{PlanRow}
use Rattle.pz_plan.specs.declared.plan.Spot.{Spot}
use Rattle.pz_plan.specs.declared.plan.Asked.{Asked}
use Rattle.pz_plan.specs.declared.plan.Asked.TheVariants as asked
use Rattle.pz_plan.specs.declared.plan.Choice.{Choice}
use Rattle.pz_plan.specs.declared.plan.TermName.{TermName}
use Rattle.pz_plan.specs.declared.plan.TermName.TheVariants as name
use Rattle.pz_plan.specs.declared.plan.Term.{Term}

-- a word for several directions asks for one of them
abbrev pub asked_by_mark : Option (Lead Class) → Subject → List Asked
asked_by_mark (Some (lead.OneOf class)) on = asked.Direction class on ∷ []
asked_by_mark _ on = []

-- a property asks for a member
abbrev pub asked_by_subject : Subject → List Asked
asked_by_subject (subject.Property property) = asked.Member property ∷ []
asked_by_subject (subject.Object object) = []

-- the word stands before its name
unfoldable pub asked_by : Mention → List Asked
asked_by mention = asked_by_mark mention.lead mention.subject ++ asked_by_subject mention.subject

-- what a cell asks for, in the order of the text
unfoldable pub choices_at : Spot → List Mention → List Choice
choices_at spot mentions = map (λ what. record { spot = spot; asked = what }) (flat_map asked_by mentions)

-- what the cell of this number in a row asks for
abbrev pub choices_of_cell : ℕ → ℕ × List Mention → List Choice
choices_of_cell row numbered = choices_at (record { row = row; cell = numbered.0 }) numbered.1

-- what the cells of a row ask for
unfoldable pub choices_in_row : ℕ → List (List Mention) → List Choice
choices_in_row row cells = flat_map (choices_of_cell row) (enumerate_from 0 cells)

-- what a row of this number asks for
abbrev pub choices_of_row : ℕ × PlanRow Mention → List Choice
choices_of_row numbered = choices_in_row numbered.0 numbered.1.cells

-- expand.choices: what rows ask for
unfoldable pub choices_in_rows : List (PlanRow Mention) → List Choice
choices_in_rows rows = flat_map choices_of_row (enumerate_from 0 rows)

-- the word of a term, if the choice of its direction has the number k
abbrev pub lead_of : ℕ → Option (Lead Class) → Option (Lead ℕ)
lead_of k None = None
lead_of k (Some lead.No) = Some lead.No
lead_of k (Some lead.Stationary) = Some lead.Stationary
lead_of k (Some (lead.Toward direction)) = Some (lead.Toward direction)
lead_of k (Some (lead.Turned turn)) = Some (lead.Turned turn)
lead_of k (Some (lead.OneOf class)) = Some (lead.OneOf k)

-- the name of a term, if the choice of its member has the number k
abbrev pub name_of : ℕ → Subject → TermName
name_of k (subject.Object object) = name.Object object
name_of k (subject.Property property) = name.Chosen k

-- the term of a mention, where n choices stand before it
unfoldable pub term_of : ℕ → Mention → Term
term_of n mention =
    record {
      lead = lead_of n mention.lead;
      name = name_of (n + length (asked_by_mark mention.lead mention.subject)) mention.subject;
    }

-- the terms of a cell, where n choices stand before it
unfoldable pub terms_of : ℕ → List Mention → List Term
terms_of n [] = []
terms_of n (mention ∷ mentions) = term_of n mention ∷ terms_of (n + length (asked_by mention)) mentions

-- how many choices a cell asks for
unfoldable pub asked_in : List Mention → ℕ
asked_in cell = length (flat_map asked_by cell)

-- how many choices cells ask for
unfoldable pub asked_count : List (List Mention) → ℕ
asked_count cells = sum_by asked_in cells

unfoldable pub cells_of : ℕ → List (List Mention) → List (List Term)
cells_of n [] = []
cells_of n (cell ∷ cells) = terms_of n cell ∷ cells_of (n + asked_in cell) cells

unfoldable pub rows_of : ℕ → List (PlanRow Mention) → List (PlanRow Term)
rows_of n [] = []
rows_of n (row ∷ rows) = record { cells = cells_of n row.cells; gap_at = row.gap_at } ∷ rows_of (n + asked_count row.cells) rows
