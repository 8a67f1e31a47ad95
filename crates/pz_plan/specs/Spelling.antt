-- What the names of a rule stand for.
use Rattle.std.specs.Prelude.{ℕ, Bool, true, false, not, ◌&&◌, ◌==◌, List, [], ◌∷◌, Option, Some, map, option_and_then, slice_get, position, length, if◌then◌else◌}
use Rattle.std.specs.List.{flat_map}
use Rattle.std.specs.Option.{option_map_or}
use Rattle.pz_grammar.specs.declared.token.Class.{Class}
use Rattle.pz_grammar.specs.declared.token.Lead.{Lead}
use Rattle.pz_grammar.specs.declared.token.Lead.TheVariants as lead
use Rattle.pz_game.specs.declared.denotation.Kind.{Kind}
use Rattle.pz_game.specs.declared.denotation.Kind.TheVariants as kind
use Rattle.pz_plan.specs.declared.plan.Subject.TheVariants as subject
use Rattle.pz_grammar.specs.declared.rule.Phrase.{Phrase}
use Rattle.pz_plan.specs.declared.plan.Mention.{Mention}
use Rattle.pz_game.specs.declared.denotation.Denotation.{Denotation}
use Rattle.pz_plan.specs.declared.plan.PlanRow.{PlanRow}
use Rattle.pz_grammar.specs.declared.rule.Cell.{Cell}
use Rattle.pz_grammar.specs.declared.rule.Cell.TheVariants as cell
use Rattle.pz_plan.specs.declared.spelling.Side.{Side}
use Rattle.pz_base.specs.Lists.{firsts}
use Rattle.pz_plan.specs.Same.{says_the_same}

abbrev pub is_no : Option (Lead Class) → Bool
is_no (Some lead.No) = true
is_no _ = false

abbrev pub is_property : Kind → Bool
is_property kind.Property = true
is_property _ = false

-- expand.no-property: a property of several members stands for one of them, and under `no` for each
abbrev pub is_chosen : Option (Lead Class) → Denotation → Bool
is_chosen word denotation = is_property denotation.kind && not (is_no word) && not (length denotation.members == 1)

-- expand.names, expand.no-property: what a name stands for, each with the word before the name
unfoldable pub mentions_of : Option (Lead Class) → Denotation → List Mention
mentions_of word denotation =
    if is_chosen word denotation then record { lead = word; subject = subject.Property denotation.number } ∷ []
    else map (λ object. record { lead = word; subject = subject.Object object }) denotation.members

-- legend.one-member: what a name denotes, if there is such a name
unfoldable pub denotation_if_any : List Denotation → Option ℕ → Option Denotation
denotation_if_any table name = option_and_then (slice_get table) name

unfoldable pub mentions_at : List Denotation → Phrase → List Mention
mentions_at table phrase = option_map_or (mentions_of phrase.lead) (denotation_if_any table phrase.name) []

-- the phrases of a cell, with each name replaced by what it stands for; what is said twice counts once
unfoldable pub spelled_out : Side → List Denotation → List Phrase → List Mention
spelled_out side table phrases = firsts (says_the_same side) (flat_map (mentions_at table) phrases)

-- what a cell says; a gap is no cell
unfoldable pub cell_of : Side → List Denotation → Cell → List (List Mention)
cell_of side table cell.Gap = []
cell_of side table (cell.Items phrases) = spelled_out side table phrases ∷ []

unfoldable pub is_gap : Cell → Bool
is_gap cell.Gap = true
is_gap (cell.Items phrases) = false

-- how many cells stand before the gap
unfoldable pub gap_of : List Cell → Option ℕ
gap_of row = position is_gap row

unfoldable pub row_spelled_out : Side → List Denotation → List Cell → PlanRow Mention
row_spelled_out side table row = record { cells = flat_map (cell_of side table) row; gap_at = gap_of row }

unfoldable pub rows_spelled_out : Side → List Denotation → List (List Cell) → List (PlanRow Mention)
rows_spelled_out side table rows = map (row_spelled_out side table) rows
