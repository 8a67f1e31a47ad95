-- The rows of a plan have the shape of rows.
use Rattle.std.proofs.Common.{◌≡◌, ℕ, zero, suc, ◌+◌, ◌-◌, ◌<◌, ◌≤◌, nat_lt, Bool, true, false, cond, ◌&&◌, ◌||◌, if◌then◌else◌, List, [], ◌∷◌, filter, map, length, Option, Some, None, IfSome, option_map, Result, Ok, Err, refl, ap, sym, subst, arith}
use Rattle.std.specs.List.{list_any, list_all, flat_map, position_or_len, count_by}
use Rattle.std.proofs.lemmas.Bool.{and_parts, or_parts, ltb-true, ltb-false, false≢true}
use Rattle.std.proofs.lemmas.List.Elements.{All-nil, All-cons, All-head, All-tail}
use Rattle.std.proofs.lemmas.List.Sums.{length-filter}
use Rattle.pz_game.specs.declared.limits.TheConstants.{MOST_ROW_CELLS}
use Rattle.pz_game.specs.Pattern.{HasShape}
use Rattle.pz_game.specs.declared.denotation.Denotation.{Denotation}
use Rattle.pz_plan.specs.declared.fault.RuleFault.{RuleFault}
use Rattle.pz_plan.specs.declared.plan.Choice.{Choice}
use Rattle.pz_plan.specs.declared.plan.Mention.{Mention}
use Rattle.pz_plan.specs.declared.plan.Plan.{Plan}
use Rattle.pz_plan.specs.declared.plan.PlanRow.{PlanRow}
use Rattle.pz_plan.specs.declared.plan.Term.{Term}
use Rattle.pz_grammar.specs.declared.rule.Cell.{Cell}
use Rattle.pz_grammar.specs.declared.rule.Cell.TheVariants as cell
use Rattle.pz_grammar.specs.declared.rule.Rule.{Rule}
use Rattle.pz_plan.specs.declared.spelling.Side.{Side}
use Rattle.pz_plan.specs.declared.spelling.Side.TheVariants as side
use Rattle.pz_plan.specs.Checks.{has_more_gaps, is_long, is_large, in_rule, is_unknown, is_mixed, has_gap_at, has_loose_gap, is_other_shape, is_misshapen, fault_of}
use Rattle.pz_plan.specs.Deciding.{both_or_none, decided_terms, decided_cells, decided_row, decided_rows}
use Rattle.pz_plan.specs.Numbering.{choices_in_rows, asked_in, asked_count, cells_of, rows_of}
use Rattle.pz_plan.specs.Planning.{with_right, plan_of_spelled, plan_of}
use Rattle.pz_plan.specs.Shape.{IsShaped, AreShaped, AreShort}
use Rattle.pz_plan.specs.Spelling.{cell_of, is_gap, gap_of, row_spelled_out, rows_spelled_out}
use Rattle.pz_grammar.specs.Written.{is_prefix, has_cells, has_rows, is_whole}

abbrev gaps : List Cell → ℕ
gaps row = length (filter is_gap row)

abbrev cells : Side → List Denotation → List Cell → ℕ
cells s t row = length (flat_map (cell_of s t) row)

cells-no_gap : (s : Side) (t : List Denotation) (row : List Cell) → gaps row ≡ 0 → cells s t row ≡ length row
unfolding cell_of is_gap
cells-no_gap s t [] h = refl
cells-no_gap s t (cell.Gap ∷ row) h = absurd (omega (arith, h))
cells-no_gap s t (cell.Items ps ∷ row) h = ap suc (cells-no_gap s t row h)

cells-few : (s : Side) (t : List Denotation) (row : List Cell) → cells s t row ≤ length row
unfolding cell_of
cells-few s t [] = omega arith
cells-few s t (cell.Gap ∷ row) = omega (arith, cells-few s t row)
cells-few s t (cell.Items ps ∷ row) = omega (arith, cells-few s t row)

-- where the last cell, of number n, is no gap, the gap stands before a cell
gap-before_end : (s : Side) (t : List Denotation) (row : List Cell) (n : ℕ) → length row ≡ suc n → gaps row ≤ 1 → has_gap_at row n ≡ false → position_or_len is_gap row < length row → position_or_len is_gap row < cells s t row
unfolding cell_of is_gap
gap-before_end s t [] n size few last at = absurd (omega (arith, at))
gap-before_end s t (cell.Gap ∷ row) zero size few last at = absurd (false≢true (sym last))
gap-before_end s t (cell.Gap ∷ row) (suc n) size few last at =
    let none : gaps row ≡ 0 = omega (arith, few) in
    omega (arith, size, cells-no_gap s t row none)
gap-before_end s t (cell.Items ps ∷ row) zero size few last at = absurd (omega (arith, size, at))
gap-before_end s t (cell.Items ps ∷ row) (suc n) size few last at =
    let later = gap-before_end s t row n (omega (arith, size)) few last (omega (arith, at)) in
    omega (arith, later)

shaped-row : (s : Side) (t : List Denotation) (row : List Cell) → has_cells row ≡ true → has_more_gaps row ≡ false → is_long row ≡ false → has_loose_gap row ≡ false → HasShape (cells s t row) (gap_of row)
unfolding has_more_gaps is_long has_loose_gap gap_of is_gap cell_of
shaped-row s t [] some few short loose = absurd (false≢true some)
shaped-row s t (cell.Gap ∷ row) some few short loose = absurd (false≢true (sym (or_parts true (has_gap_at (cell.Gap ∷ row) (length (cell.Gap ∷ row) - 1)) loose).0))
shaped-row s t (cell.Items ps ∷ row) some few short loose =
    let all = cell.Items ps ∷ row in
    let n = cells s t all in
    let p = position_or_len is_gap all in
    let last : has_gap_at all (length row) ≡ false = subst (λ k. has_gap_at all k ≡ false) (omega arith) (or_parts (has_gap_at all 0) (has_gap_at all (length all - 1)) loose).1 in
    let one : gaps all ≤ 1 = omega (arith, ltb-false 1 (count_by is_gap all) few, length-filter is_gap all) in
    let small : n ≤ MOST_ROW_CELLS = omega (arith, ltb-false MOST_ROW_CELLS (length all) short, cells-few s t all) in
    let by : (b : Bool) → nat_lt p (length all) ≡ b → HasShape n (cond b (Some p) None) = λ b. elim b as (λ b. nat_lt p (length all) ≡ b → HasShape n (cond b (Some p) None)) [
      | true ↦ λ e.
          let before : p < n = gap-before_end s t all (length row) (omega arith) one last (ltb-true p (length all) e) in
          record { some = omega (arith, before); short = small; between = (omega arith, before) }
      | false ↦ λ e. record { some = omega arith; short = small; between = tt }
    ] in
    by (nat_lt p (length all)) refl

shaped-rows : (s : Side) (t : List Denotation) (rows : List (List Cell)) → list_all has_cells rows ≡ true → list_any has_more_gaps rows ≡ false → list_any is_long rows ≡ false → list_any has_loose_gap rows ≡ false → AreShaped (map (row_spelled_out s t) rows)
unfolding row_spelled_out
shaped-rows s t [] some few short loose = All-nil IsShaped
shaped-rows s t (row ∷ rows) some few short loose =
    let p = and_parts (has_cells row) (list_all has_cells rows) some in
    let q = or_parts (has_more_gaps row) (list_any has_more_gaps rows) few in
    let r = or_parts (is_long row) (list_any is_long rows) short in
    let u = or_parts (has_loose_gap row) (list_any has_loose_gap rows) loose in
    All-cons IsShaped (row_spelled_out s t row) (map (row_spelled_out s t) rows) (shaped-row s t row p.0 q.0 r.0 u.0) (shaped-rows s t rows p.1 q.1 r.1 u.1)

length-cells_of : (n : ℕ) (cells : List (List Mention)) → length (cells_of n cells) ≡ length cells
unfolding cells_of
length-cells_of n [] = refl
length-cells_of n (c ∷ cells) = ap suc (length-cells_of (n + asked_in c) cells)

shaped-rows_of : (n : ℕ) (rows : List (PlanRow Mention)) → AreShaped rows → AreShaped (rows_of n rows)
unfolding rows_of
shaped-rows_of n [] h = All-nil IsShaped
shaped-rows_of n (row ∷ rows) h =
    All-cons IsShaped (record { cells = cells_of n row.cells; gap_at = row.gap_at }) (rows_of (n + asked_count row.cells) rows)
    (subst (λ k. HasShape k row.gap_at) (sym (length-cells_of n row.cells)) (All-head IsShaped row rows h))
    (shaped-rows_of (n + asked_count row.cells) rows (All-tail IsShaped row rows h))

joined-length : {X : Type 0} (n : ℕ) (o : Option X) (p : Option (List X)) → IfSome p (λ xs. length xs ≡ n) → IfSome (both_or_none o p) (λ xs. length xs ≡ suc n)
joined-length n (Some x) (Some xs) h = ap suc h
joined-length n (Some x) None h = tt
joined-length n None p h = tt

length-decided : (cs : List Choice) (r n : ℕ) (cells : List (List Mention)) → IfSome (decided_cells cs r n cells) (λ xs. length xs ≡ length cells)
unfolding decided_cells
length-decided cs r n [] = refl
length-decided cs r n (c ∷ cells) = joined-length (length cells) (decided_terms cs (record { row = r; cell = n }) c) (decided_cells cs r (n + 1) cells) (length-decided cs r (n + 1) cells)

joined-shaped : (o : Option (PlanRow Term)) (p : Option (List (PlanRow Term))) → IfSome o IsShaped → IfSome p AreShaped → IfSome (both_or_none o p) AreShaped
joined-shaped (Some row) (Some rows) h k = All-cons IsShaped row rows h k
joined-shaped (Some row) None h k = tt
joined-shaped None p h k = tt

abbrev row_with : Option ℕ → List (List Term) → PlanRow Term
row_with gap_at cs = record { cells = cs; gap_at = gap_at }

shaped-decided_row : (cs : List Choice) (n : ℕ) (row : PlanRow Mention) → IsShaped row → IfSome (decided_row cs n row) IsShaped
unfolding decided_row
shaped-decided_row cs n row h =
    let by : (o : Option (List (List Term))) → IfSome o (λ xs. length xs ≡ length row.cells) → IfSome (option_map (row_with row.gap_at) o) IsShaped =
    λ o. elim o as (λ o. IfSome o (λ xs. length xs ≡ length row.cells) → IfSome (option_map (row_with row.gap_at) o) IsShaped) [
      | None ↦ λ e. tt
      | Some cs ↦ λ e. subst (λ k. HasShape k row.gap_at) (sym e) h
    ] in
    by (decided_cells cs n 0 row.cells) (length-decided cs n 0 row.cells)

shaped-decided : (cs : List Choice) (n : ℕ) (rows : List (PlanRow Mention)) → AreShaped rows → IfSome (decided_rows cs n rows) AreShaped
unfolding decided_rows
shaped-decided cs n [] h = All-nil IsShaped
shaped-decided cs n (row ∷ rows) h =
    joined-shaped (decided_row cs n row) (decided_rows cs (n + 1) rows) (shaped-decided_row cs n row (All-head IsShaped row rows h)) (shaped-decided cs (n + 1) rows (All-tail IsShaped row rows h))

abbrev PlanIsShaped : Result Plan RuleFault → Type 0
PlanIsShaped (Ok plan) = AreShaped plan.left × AreShaped plan.right
PlanIsShaped (Err fault) = Unit {0}

shaped-with_right : (rule : Rule) (left : List (PlanRow Mention)) (right : Option (List (PlanRow Term))) → AreShaped left → IfSome right AreShaped → PlanIsShaped (with_right rule left right)
unfolding with_right
shaped-with_right rule left None h k = tt
shaped-with_right rule left (Some right) h k = (shaped-rows_of 0 left h, k)

-- where a test finds no fault, it failed, and the tests after it find none
passed : (b : Bool) (f : RuleFault) (later : Option RuleFault) → (if b then Some f else later) ≡ None → (b ≡ false) × (later ≡ None)
passed true f later e = absurd (cc)
passed false f later e = (refl, e)

record Written_well (rule : Rule) : Type 0 where
  gaps : (list_any has_more_gaps rule.left || list_any has_more_gaps rule.right) ≡ false
  large : (is_large rule.left || is_large rule.right) ≡ false
  shape : is_misshapen rule ≡ false

well-written : (t : List Denotation) (late : Bool) (rule : Rule) → fault_of t late rule ≡ None → Written_well rule
unfolding fault_of
well-written t late rule e =
    let a = passed (list_any has_more_gaps rule.left || list_any has_more_gaps rule.right) _ _ e in
    let b = passed (is_large rule.left || is_large rule.right) _ _ a.1 in
    let c = passed (in_rule (is_unknown t) rule) _ _ b.1 in
    let d = passed (in_rule (is_mixed t) rule) _ _ c.1 in
    let f = passed (is_misshapen rule) _ _ d.1 in
    record { gaps = a.0; large = b.0; shape = f.0 }

short-rows : (rows : List (List Cell)) → list_any is_long rows ≡ false → AreShort rows
unfolding is_long
short-rows [] h = All-nil (λ row. length row ≤ MOST_ROW_CELLS)
short-rows (row ∷ rows) h =
    let p = or_parts (is_long row) (list_any is_long rows) h in
    All-cons (λ row. length row ≤ MOST_ROW_CELLS) row rows (ltb-false MOST_ROW_CELLS (length row) p.0) (short-rows rows p.1)

-- the rows of a rule without a fault are short
pub short-sides : (t : List Denotation) (late : Bool) (rule : Rule) → fault_of t late rule ≡ None → AreShort rule.left × AreShort rule.right
unfolding is_large
short-sides t late rule e =
    let l = or_parts (is_large rule.left) (is_large rule.right) (well-written t late rule e).large in
    (short-rows rule.left (or_parts (nat_lt 8 (length rule.left)) (list_any is_long rule.left) l.0).1, short-rows rule.right (or_parts (nat_lt 8 (length rule.right)) (list_any is_long rule.right) l.1).1)

shaped-planned : (t : List Denotation) (rule : Rule) → is_whole rule ≡ true → Written_well rule → PlanIsShaped (plan_of_spelled rule (rows_spelled_out side.Left t rule.left) (rows_spelled_out side.Right t rule.right))
unfolding plan_of_spelled rows_spelled_out is_large is_misshapen
shaped-planned t rule whole well =
    let a = and_parts (list_all is_prefix rule.prefixes) (has_rows rule.left && (list_all has_cells rule.left && list_all has_cells rule.right)) whole in
    let b = and_parts (has_rows rule.left) (list_all has_cells rule.left && list_all has_cells rule.right) a.1 in
    let c = and_parts (list_all has_cells rule.left) (list_all has_cells rule.right) b.1 in
    let g = or_parts (list_any has_more_gaps rule.left) (list_any has_more_gaps rule.right) well.gaps in
    let l = or_parts (is_large rule.left) (is_large rule.right) well.large in
    let ll = or_parts (nat_lt 8 (length rule.left)) (list_any is_long rule.left) l.0 in
    let lr = or_parts (nat_lt 8 (length rule.right)) (list_any is_long rule.right) l.1 in
    let s = or_parts (list_any has_loose_gap rule.left || list_any has_loose_gap rule.right) (is_other_shape rule.left rule.right) well.shape in
    let e = or_parts (list_any has_loose_gap rule.left) (list_any has_loose_gap rule.right) s.0 in
    let left = rows_spelled_out side.Left t rule.left in
    let right = rows_spelled_out side.Right t rule.right in
    shaped-with_right rule left (decided_rows (choices_in_rows left) 0 right)
    (shaped-rows side.Left t rule.left c.0 g.0 ll.1 e.0)
    (shaped-decided (choices_in_rows left) 0 right (shaped-rows side.Right t rule.right c.1 g.1 lr.1 e.1))

shaped-plan : (t : List Denotation) (late : Bool) (rule : Rule) → is_whole rule ≡ true → PlanIsShaped (plan_of t late rule)
unfolding plan_of
shaped-plan t late rule whole =
    let left = rows_spelled_out side.Left t rule.left in
    let right = rows_spelled_out side.Right t rule.right in
    let by : (o : Option RuleFault) → fault_of t late rule ≡ o → PlanIsShaped (elim o [ Some fault ↦ Err fault | None ↦ plan_of_spelled rule left right ]) =
    λ o. elim o as (λ o. fault_of t late rule ≡ o → PlanIsShaped (elim o [ Some fault ↦ Err fault | None ↦ plan_of_spelled rule left right ])) [
      | Some fault ↦ λ e. tt
      | None ↦ λ e. shaped-planned t rule whole (well-written t late rule e)
    ] in
    by (fault_of t late rule) refl

pub shaped : (t : List Denotation) (late : Bool) (rule : Rule) (plan : Plan) → is_whole rule ≡ true → plan_of t late rule ≡ Ok plan → AreShaped plan.left × AreShaped plan.right
shaped t late rule plan whole e =
    subst PlanIsShaped e (shaped-plan t late rule whole)
