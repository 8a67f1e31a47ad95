-- A list before the rest of a list, if the rest is there.
use Rattle.std.proofs.Common.{◌≡◌, ◌<◌, ◌≤◌, ◌+◌, ℕ, ◌++◌, List, [], ◌∷◌, Option, Some, None, option_map, length, drop, get_or, refl, ap, sym, ◌∙◌, append_assoc}
use Rattle.std.proofs.lemmas.List.{at_drop_more, drop_all, append-nil}
use Rattle.pz_plan.specs.declared.plan.Choice.{Choice}
use Rattle.pz_plan.specs.declared.plan.Mention.{Mention}
use Rattle.pz_plan.specs.declared.plan.PlanRow.{PlanRow}
use Rattle.pz_plan.specs.declared.plan.Spot.{Spot}
use Rattle.pz_plan.specs.declared.plan.Term.{Term}
use Rattle.pz_plan.specs.Deciding.{both_or_none, decided_term, decided_terms, decided_cells, decided_row, decided_rows}

abbrev pub after : {X : Type 0} → List X → Option (List X) → Option (List X)
after xs rest = option_map (λ ys. xs ++ ys) rest

pub after-push : {X : Type 0} (xs : List X) (x : X) (rest : Option (List X)) → after (xs ++ x ∷ []) rest ≡ after xs (both_or_none (Some x) rest)
after-push xs x None = refl
after-push xs x (Some ys) = ap Some (append_assoc xs (x ∷ []) ys)

-- one more mention of a cell
pub terms-at : (choices : List Choice) (spot : Spot) (out : List Term) (ms : List Mention) (i : ℕ) (d : Mention) → i < length ms
    → after out (decided_terms choices spot (drop i ms)) ≡ after out (both_or_none (decided_term choices spot (get_or ms i d)) (decided_terms choices spot (drop (i + 1) ms)))
unfolding decided_terms
terms-at choices spot out ms i d in_range = at_drop_more (λ l. after out (decided_terms choices spot l)) ms i d in_range

-- one more cell of a row
pub cells-at : (choices : List Choice) (row : ℕ) (out : List (List Term)) (cells : List (List Mention)) (i : ℕ) (cell : List Mention) → i < length cells → cell ≡ get_or cells i cell
    → after out (decided_cells choices row i (drop i cells)) ≡ after out (both_or_none (decided_terms choices (record { row = row; cell = i }) cell) (decided_cells choices row (i + 1) (drop (i + 1) cells)))
unfolding decided_cells
cells-at choices row out cells i cell in_range at =
    at_drop_more (λ l. after out (decided_cells choices row i l)) cells i cell in_range
    ∙ ap (λ y. after out (both_or_none (decided_terms choices (record { row = row; cell = i }) y) (decided_cells choices row (i + 1) (drop (i + 1) cells)))) (sym at)

-- one more row
pub rows-at : (choices : List Choice) (out : List (PlanRow Term)) (rows : List (PlanRow Mention)) (i : ℕ) (row : PlanRow Mention) → i < length rows → row ≡ get_or rows i row
    → after out (decided_rows choices i (drop i rows)) ≡ after out (both_or_none (decided_row choices i row) (decided_rows choices (i + 1) (drop (i + 1) rows)))
unfolding decided_rows
rows-at choices out rows i row in_range at =
    at_drop_more (λ l. after out (decided_rows choices i l)) rows i row in_range
    ∙ ap (λ y. after out (both_or_none (decided_row choices i y) (decided_rows choices (i + 1) (drop (i + 1) rows)))) (sym at)

-- a list that goes on with one that is there
pub after-some : {X : Type 0} (xs : List X) (x : X) (one : Option X) (rest whole : Option (List X)) → one ≡ Some x → after xs (both_or_none one rest) ≡ whole → after (xs ++ x ∷ []) rest ≡ whole
after-some xs x one rest whole there e = after-push xs x rest ∙ ap (λ o. after xs (both_or_none o rest)) (sym there) ∙ e

pub after-nothing : {X : Type 0} (rest : Option (List X)) → after [] rest ≡ rest
after-nothing None = refl
after-nothing (Some ys) = refl

-- where nothing is left, all is there
pub after-all : {X A : Type 0} (f : List A → Option (List X)) → f [] ≡ Some [] → (out : List X) (xs : List A) (i : ℕ) (whole : Option (List X)) → length xs ≤ i → after out (f (drop i xs)) ≡ whole → Some out ≡ whole
after-all f none out xs i whole over e =
    ap Some (sym (append-nil out)) ∙ (ap (after out) (sym none) ∙ (ap (λ l. after out (f l)) (sym (drop_all i xs over)) ∙ e))
