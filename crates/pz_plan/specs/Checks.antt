-- What may be wrong with what is written in a rule.
use Rattle.std.specs.Prelude.{ℕ, ◌-◌, Bool, true, false, not, ◌&&◌, ◌||◌, ◌==◌, nat_lt, List, Option, Some, None, is_none, slice_get, length, count_by, if◌then◌else◌}
use Rattle.std.specs.List.{list_any, list_all, zip}
use Rattle.std.specs.Option.{option_map_or}
use Rattle.pz_game.specs.declared.denotation.Denotation.{Denotation}
use Rattle.pz_game.specs.declared.denotation.Kind.{Kind}
use Rattle.pz_game.specs.declared.denotation.Kind.TheVariants as kind
use Rattle.pz_game.specs.declared.limits.TheConstants.{MOST_ROW_CELLS, MOST_ROWS}
use Rattle.pz_grammar.specs.declared.rule.Phrase.{Phrase}
use Rattle.pz_grammar.specs.declared.rule.Cell.{Cell}
use Rattle.pz_grammar.specs.declared.rule.Cell.TheVariants as cell
use Rattle.pz_grammar.specs.declared.rule.Rule.{Rule}
use Rattle.pz_plan.specs.declared.fault.RuleFault.{RuleFault}
use Rattle.pz_plan.specs.declared.fault.RuleFault.TheVariants as fault
use Rattle.pz_plan.specs.declared.checks.Found.{Found}
use Rattle.pz_plan.specs.declared.checks.Found.TheVariants as found
use Rattle.pz_plan.specs.Spelling.{is_no, is_gap, gap_of, denotation_if_any}

-- checks.gaps: a row with more than one gap
unfoldable pub has_more_gaps : List Cell → Bool
has_more_gaps row = nat_lt 1 (count_by is_gap row)

-- a row of more cells than a row may have
unfoldable pub is_long : List Cell → Bool
is_long row = nat_lt MOST_ROW_CELLS (length row)

-- checks.too-large: a side of more rows, or longer ones, than a side may have
unfoldable pub is_large : List (List Cell) → Bool
is_large rows = nat_lt MOST_ROWS (length rows) || list_any is_long rows

-- checks.unknown: a name that nothing has
unfoldable pub is_unknown : List Denotation → Phrase → Bool
is_unknown table phrase = is_none (denotation_if_any table phrase.name)

abbrev pub is_aggregate : Kind → Bool
is_aggregate kind.Aggregate = true
is_aggregate _ = false

-- checks.no-aggregate: `no` before an aggregate
unfoldable pub is_mixed : List Denotation → Phrase → Bool
is_mixed table phrase = is_no phrase.lead && option_map_or (λ denotation. is_aggregate denotation.kind) (denotation_if_any table phrase.name) false

-- checks.late-movement: a movement word
unfoldable pub is_moving : Phrase → Bool
is_moving phrase = elim phrase.lead [ None ↦ false | Some word ↦ not (is_no (Some word)) ]

abbrev pub found_by : List Denotation → Found → Phrase → Bool
found_by table found.Unknown = is_unknown table
found_by table found.Mixed = is_mixed table
found_by table found.Moving = is_moving

unfoldable pub in_cell : (Phrase → Bool) → Cell → Bool
in_cell is cell.Gap = false
in_cell is (cell.Items phrases) = list_any is phrases

unfoldable pub in_row : (Phrase → Bool) → List Cell → Bool
in_row is row = list_any (in_cell is) row

-- some phrase of these rows passes the test
unfoldable pub in_rows : (Phrase → Bool) → List (List Cell) → Bool
in_rows is rows = list_any (in_row is) rows

-- some phrase of a rule passes the test
unfoldable pub in_rule : (Phrase → Bool) → Rule → Bool
in_rule is rule = in_rows is rule.left || in_rows is rule.right

abbrev pub has_gap_at : List Cell → ℕ → Bool
has_gap_at row place = option_map_or is_gap (slice_get row place) false

-- the gap is the first or the last of its row
unfoldable pub has_loose_gap : List Cell → Bool
has_loose_gap row = has_gap_at row 0 || has_gap_at row (length row - 1)

abbrev pub same_place : Option ℕ → Option ℕ → Bool
same_place None None = true
same_place (Some a) (Some b) = a == b
same_place _ _ = false

unfoldable pub same_shape : List Cell → List Cell → Bool
same_shape a b = (length a == length b) && same_place (gap_of a) (gap_of b)

-- the rows of the sides agree, as far as both sides go
unfoldable pub shapes_agree : List (List Cell) → List (List Cell) → Bool
shapes_agree left right = list_all (λ p. same_shape p.0 p.1) (zip left right)

-- the right has rows, and they differ from the left's in number, in length or in the place of a gap
unfoldable pub is_other_shape : List (List Cell) → List (List Cell) → Bool
is_other_shape left right = not (length right == 0) && not ((length left == length right) && shapes_agree left right)

-- checks.shape
unfoldable pub is_misshapen : Rule → Bool
is_misshapen rule = list_any has_loose_gap rule.left || list_any has_loose_gap rule.right || is_other_shape rule.left rule.right

-- checks.late-movement: the first fault in what a rule says, in the order of the checks: more than one `...` in a row, more
-- rows or longer ones than a rule may have, a name that nothing has, `no` before an aggregate, sides of other shapes, a
-- movement word in a late rule
unfoldable pub fault_of : List Denotation → Bool → Rule → Option RuleFault
fault_of table is_late rule =
    if list_any has_more_gaps rule.left || list_any has_more_gaps rule.right then Some fault.OutsideProfile
    else (if is_large rule.left || is_large rule.right then Some fault.TooLarge
    else (if in_rule (is_unknown table) rule then Some fault.Unknown
    else (if in_rule (is_mixed table) rule then Some fault.Mixed
    else (if is_misshapen rule then Some fault.Shape
    else (if is_late && in_rule is_moving rule then Some fault.LateMovement
    else None)))))
