-- Terms and choices of a left side, one after the other.
use Rattle.std.proofs.Common.{◌≡◌, ◌<◌, ◌+◌, ℕ, ◌++◌, List, [], ◌∷◌, map, length, drop, get_or, ap, sym, ◌∙◌, append_assoc, length-append, arith}
use Rattle.std.specs.List.{flat_map, enumerate_from}
use Rattle.std.proofs.lemmas.List.{at_drop_more, map-append, length-map}
use Rattle.std.proofs.lemmas.List.Sums.{sum_by-cons}
use Rattle.pz_base.proofs.ListLemmas.{drop-next}
use Rattle.pz_plan.specs.declared.plan.Asked.{Asked}
use Rattle.pz_plan.specs.declared.plan.Choice.{Choice}
use Rattle.pz_plan.specs.declared.plan.Mention.{Mention}
use Rattle.pz_plan.specs.declared.plan.PlanRow.{PlanRow}
use Rattle.pz_plan.specs.declared.plan.Spot.{Spot}
use Rattle.pz_plan.specs.declared.plan.Term.{Term}
use Rattle.pz_plan.specs.Numbering.{asked_by, asked_in, asked_count, choices_at, choices_of_cell, choices_in_row, choices_of_row, term_of, terms_of, cells_of, rows_of}

-- one more mention of a cell
terms-at : (n : ℕ) (ms : List Mention) (i : ℕ) (d : Mention) → i < length ms
    → terms_of n (drop i ms) ≡ term_of n (get_or ms i d) ∷ terms_of (n + length (asked_by (get_or ms i d))) (drop (i + 1) ms)
unfolding terms_of
terms-at n ms i d in_range = at_drop_more (terms_of n) ms i d in_range

pub terms-more : (out : List Term) (n more : ℕ) (ms : List Mention) (i : ℕ) (d : Mention) (whole : List Term) → i < length ms → more ≡ n + length (asked_by (get_or ms i d))
    → out ++ terms_of n (drop i ms) ≡ whole → (out ++ term_of n (get_or ms i d) ∷ []) ++ terms_of more (drop (i + 1) ms) ≡ whole
terms-more out n more ms i d whole in_range counted e =
    append_assoc out (term_of n (get_or ms i d) ∷ []) (terms_of more (drop (i + 1) ms))
    ∙ ap (λ k. out ++ term_of n (get_or ms i d) ∷ terms_of k (drop (i + 1) ms)) counted
    ∙ ap (λ l. out ++ l) (sym (terms-at n ms i d in_range)) ∙ e

abbrev asks : Spot → Asked → Choice
asks spot what = record { spot = spot; asked = what }

choices-at : (spot : Spot) (ms : List Mention) (i : ℕ) (d : Mention) → i < length ms
    → choices_at spot (drop i ms) ≡ map (asks spot) (asked_by (get_or ms i d)) ++ choices_at spot (drop (i + 1) ms)
unfolding choices_at
choices-at spot ms i d in_range =
    at_drop_more (λ l. map (asks spot) (flat_map asked_by l)) ms i d in_range ∙ map-append (asks spot) (asked_by (get_or ms i d)) (flat_map asked_by (drop (i + 1) ms))

pub choices-more : (spot : Spot) (before : List Choice) (ms : List Mention) (i : ℕ) (d : Mention) (whole : List Choice) → i < length ms
    → before ++ choices_at spot (drop i ms) ≡ whole → (before ++ map (asks spot) (asked_by (get_or ms i d))) ++ choices_at spot (drop (i + 1) ms) ≡ whole
choices-more spot before ms i d whole in_range e =
    append_assoc before (map (asks spot) (asked_by (get_or ms i d))) (choices_at spot (drop (i + 1) ms))
    ∙ ap (λ l. before ++ l) (sym (choices-at spot ms i d in_range)) ∙ e

pub asked-by : (spot : Spot) (before after : List Choice) (m : Mention) → after ≡ before ++ map (asks spot) (asked_by m) → length after ≡ length before + length (asked_by m)
asked-by spot before after m e =
    ap length e ∙ length-append before (map (asks spot) (asked_by m)) ∙ ap (λ n. length before + n) (length-map (asked_by m) (asks spot))

-- one more cell of a row
pub cells-more : (out : List (List Term)) (n more : ℕ) (cells : List (List Mention)) (i : ℕ) (cell : List Mention) (whole : List (List Term)) → i < length cells → cell ≡ get_or cells i cell
    → more ≡ n + asked_in cell → out ++ cells_of n (drop i cells) ≡ whole → (out ++ terms_of n cell ∷ []) ++ cells_of more (drop (i + 1) cells) ≡ whole
unfolding cells_of
cells-more out n more cells i cell whole in_range at counted e =
    append_assoc out (terms_of n cell ∷ []) (cells_of more (drop (i + 1) cells))
    ∙ ap (λ k. out ++ terms_of n cell ∷ cells_of k (drop (i + 1) cells)) counted
    ∙ ap (λ l. out ++ cells_of n l) (sym (drop-next cells i cell in_range at)) ∙ e

pub cell_choices-more : (row : ℕ) (before : List Choice) (cells : List (List Mention)) (i : ℕ) (cell : List Mention) (whole : List Choice) → i < length cells → cell ≡ get_or cells i cell
    → before ++ flat_map (choices_of_cell row) (enumerate_from i (drop i cells)) ≡ whole
    → (before ++ choices_at (record { row = row; cell = i }) cell) ++ flat_map (choices_of_cell row) (enumerate_from (i + 1) (drop (i + 1) cells)) ≡ whole
cell_choices-more row before cells i cell whole in_range at e =
    append_assoc before (choices_at (record { row = row; cell = i }) cell) (flat_map (choices_of_cell row) (enumerate_from (i + 1) (drop (i + 1) cells)))
    ∙ ap (λ l. before ++ flat_map (choices_of_cell row) (enumerate_from i l)) (sym (drop-next cells i cell in_range at)) ∙ e

pub asked-more : (n more : ℕ) (cells : List (List Mention)) (i : ℕ) (cell : List Mention) (whole : ℕ) → i < length cells → cell ≡ get_or cells i cell
    → more ≡ n + asked_in cell → n + asked_count (drop i cells) ≡ whole → more + asked_count (drop (i + 1) cells) ≡ whole
unfolding asked_count
asked-more n more cells i cell whole in_range at counted e =
    let next : asked_count (drop i cells) ≡ asked_in cell + asked_count (drop (i + 1) cells) =
    ap asked_count (drop-next cells i cell in_range at) ∙ sum_by-cons asked_in cell (drop (i + 1) cells) in
    omega (arith, counted, next, e)

-- one more row
pub rows-more : (out : List (PlanRow Term)) (n more : ℕ) (rows : List (PlanRow Mention)) (i : ℕ) (row : PlanRow Mention) (whole : List (PlanRow Term)) → i < length rows → row ≡ get_or rows i row
    → more ≡ n + asked_count row.cells → out ++ rows_of n (drop i rows) ≡ whole → (out ++ (record { cells = cells_of n row.cells; gap_at = row.gap_at }) ∷ []) ++ rows_of more (drop (i + 1) rows) ≡ whole
unfolding rows_of
rows-more out n more rows i row whole in_range at counted e =
    append_assoc out ((record { cells = cells_of n row.cells; gap_at = row.gap_at }) ∷ []) (rows_of more (drop (i + 1) rows))
    ∙ ap (λ k. out ++ (record { cells = cells_of n row.cells; gap_at = row.gap_at }) ∷ rows_of k (drop (i + 1) rows)) counted
    ∙ ap (λ l. out ++ rows_of n l) (sym (drop-next rows i row in_range at)) ∙ e

pub row_choices-more : (before : List Choice) (rows : List (PlanRow Mention)) (i : ℕ) (row : PlanRow Mention) (whole : List Choice) → i < length rows → row ≡ get_or rows i row
    → before ++ flat_map choices_of_row (enumerate_from i (drop i rows)) ≡ whole → (before ++ choices_in_row i row.cells) ++ flat_map choices_of_row (enumerate_from (i + 1) (drop (i + 1) rows)) ≡ whole
row_choices-more before rows i row whole in_range at e =
    append_assoc before (choices_in_row i row.cells) (flat_map choices_of_row (enumerate_from (i + 1) (drop (i + 1) rows)))
    ∙ ap (λ l. before ++ flat_map choices_of_row (enumerate_from i l)) (sym (drop-next rows i row in_range at)) ∙ e
