-- Which choice of the left decides an item of the right.
use Rattle.std.specs.Prelude.{ℕ, ◌+◌, Bool, false, ◌&&◌, ◌==◌, List, [], ◌∷◌, Option, Some, None, map, filter}
use Rattle.std.specs.List.{enumerate_from}
use Rattle.std.specs.Option.{option_map, option_or}
use Rattle.pz_grammar.specs.declared.token.Class.{Class}
use Rattle.pz_grammar.specs.declared.token.Lead.{Lead}
use Rattle.pz_grammar.specs.declared.token.Lead.TheVariants as lead
use Rattle.pz_plan.specs.declared.plan.Subject.{Subject}
use Rattle.pz_plan.specs.declared.plan.Subject.TheVariants as subject
use Rattle.pz_plan.specs.declared.plan.Mention.{Mention}
use Rattle.pz_plan.specs.declared.plan.PlanRow.{PlanRow}
use Rattle.pz_plan.specs.declared.plan.Spot.{Spot}
use Rattle.pz_plan.specs.declared.plan.Asked.TheVariants as asked
use Rattle.pz_plan.specs.declared.plan.Choice.{Choice}
use Rattle.pz_plan.specs.declared.plan.TermName.{TermName}
use Rattle.pz_plan.specs.declared.plan.TermName.TheVariants as name
use Rattle.pz_plan.specs.declared.plan.Term.{Term}
use Rattle.pz_plan.specs.declared.deciding.Wanted.{Wanted}
use Rattle.pz_plan.specs.declared.deciding.Wanted.TheVariants as wanted
use Rattle.pz_plan.specs.Numbering.{lead_of, name_of}
use Rattle.pz_plan.specs.Same.{same_class, same_subject}

abbrev pub same_spot : Spot → Spot → Bool
same_spot a b = (a.row == b.row) && (a.cell == b.cell)

-- the choice is the member of this property
unfoldable pub is_member : ℕ → Choice → Bool
is_member property choice = elim choice.asked [ asked.Member own ↦ own == property | asked.Direction class on ↦ false ]

-- the choice is the direction of this word
unfoldable pub is_direction : Class → Choice → Bool
is_direction class choice = elim choice.asked [ asked.Member own ↦ false | asked.Direction other on ↦ same_class other class ]

-- the choice is the direction of this word on this name
unfoldable pub is_direction_on : Class → Subject → Choice → Bool
is_direction_on class name choice = elim choice.asked [ asked.Member own ↦ false | asked.Direction other on ↦ same_class other class && same_subject on name ]

-- the choice stands in this cell and passes the test
unfoldable pub is_here : Spot → (Choice → Bool) → Choice → Bool
is_here spot is choice = same_spot choice.spot spot && is choice

-- what the code looks for, as a test of choices
abbrev pub fits : Wanted → Choice → Bool
fits (wanted.Member property) = is_member property
fits (wanted.Direction class) = is_direction class
fits (wanted.DirectionOn class on) = is_direction_on class on

abbrev pub fits_within : Wanted → Option Spot → Choice → Bool
fits_within what (Some spot) = is_here spot (fits what)
fits_within what None = fits what

-- the numbers of those numbered choices that pass the test
abbrev pub numbers_of : (Choice → Bool) → List (ℕ × Choice) → List ℕ
numbers_of is numbered = map (λ choice. choice.0) (filter (λ choice. is choice.1) numbered)

-- the element of a list of length one
abbrev pub only_element : List ℕ → Option ℕ
only_element [] = None
only_element (k ∷ []) = Some k
only_element (k ∷ next ∷ more) = None

-- the number of the only choice that passes the test
unfoldable pub the_only : (Choice → Bool) → List Choice → Option ℕ
the_only is choices = only_element (numbers_of is (enumerate_from 0 choices))

-- expand.right-property: the member of a property: of its only occurrence in the cell, else of its only one in the rule
unfoldable pub member_choice : List Choice → Spot → ℕ → Option ℕ
member_choice choices spot property =
    option_or (the_only (is_here spot (is_member property)) choices) (the_only (is_member property) choices)

-- expand.right-word: the direction of a word: of its only occurrence on the same name in the cell, else of its only one in the
-- cell, else of its only one in the rule
unfoldable pub direction_choice : List Choice → Spot → Class → Subject → Option ℕ
direction_choice choices spot class on =
    option_or (the_only (is_here spot (is_direction_on class on)) choices)
    (option_or (the_only (is_here spot (is_direction class)) choices) (the_only (is_direction class) choices))

unfoldable pub decided_lead : List Choice → Spot → Option (Lead Class) → Subject → Option (Option (Lead ℕ))
decided_lead choices spot (Some (lead.OneOf class)) on = option_map (λ k. Some (lead.OneOf k)) (direction_choice choices spot class on)
decided_lead choices spot other on = Some (lead_of 0 other)

unfoldable pub decided_name : List Choice → Spot → Subject → Option TermName
decided_name choices spot (subject.Property property) = option_map name.Chosen (member_choice choices spot property)
decided_name choices spot other = Some (name_of 0 other)

abbrev pub with_lead : Option (Option (Lead ℕ)) → Option TermName → Option Term
with_lead (Some lead) (Some name) = Some (record { lead = lead; name = name })
with_lead (Some lead) None = None
with_lead None name = None

-- the term of an item of the right. None: it is ambiguous which choice decides it
unfoldable pub decided_term : List Choice → Spot → Mention → Option Term
decided_term choices spot mention =
    with_lead (decided_lead choices spot mention.lead mention.subject) (decided_name choices spot mention.subject)

-- a list with one more before it, if both are there
abbrev pub both_or_none : {X : Type 0} → Option X → Option (List X) → Option (List X)
both_or_none (Some x) (Some xs) = Some (x ∷ xs)
both_or_none (Some x) None = None
both_or_none None xs = None

unfoldable pub decided_terms : List Choice → Spot → List Mention → Option (List Term)
decided_terms choices spot [] = Some []
decided_terms choices spot (mention ∷ mentions) = both_or_none (decided_term choices spot mention) (decided_terms choices spot mentions)

-- the cells of a row, where n cells of the row stand before them
unfoldable pub decided_cells : List Choice → ℕ → ℕ → List (List Mention) → Option (List (List Term))
decided_cells choices row n [] = Some []
decided_cells choices row n (cell ∷ cells) =
    both_or_none (decided_terms choices (record { row = row; cell = n }) cell) (decided_cells choices row (n + 1) cells)

unfoldable pub decided_row : List Choice → ℕ → PlanRow Mention → Option (PlanRow Term)
decided_row choices n row = option_map (λ cells. record { cells = cells; gap_at = row.gap_at }) (decided_cells choices n 0 row.cells)

-- expand.ambiguous
unfoldable pub decided_rows : List Choice → ℕ → List (PlanRow Mention) → Option (List (PlanRow Term))
decided_rows choices n [] = Some []
decided_rows choices n (row ∷ rows) = both_or_none (decided_row choices n row) (decided_rows choices (n + 1) rows)
