use Rattle.std.proofs.Common.{◌≡◌, ◌<◌, ◌*◌, List, ℕ, Some, length, take, drop, ap, sym, ◌∙◌, arith}
use Rattle.std.specs.Prelude.{slice_get}
use Rattle.std.proofs.lemmas.Option.{same_Some}
use Rattle.pz_store.specs.Rows.{RowsState}
use Rattle.pz_store.proofs.RowLemmas.{row_at, rows_count, row_within}
use Rattle.pz_store.proofs.rows.Rows.has_at.Goals as goal

pub overflow_mul-place : goal.overflow_mul-place
overflow_mul-place c =
    let low : c.args.place < c.self.inside.count = omega (arith, c.requires.within, rows_count c.self.inside.long c.self.inside.count c.self.inside.numbers, ap (λ (r : RowsState). length r.rows) c.self.view_is) in
    omega (arith, c.len.type_inv, c.len.ensures, c.self.invariant, row_within c.self.inside.long c.self.inside.count c.args.place low)

pub has_at-requires : goal.has_at-requires
has_at-requires c =
    let low : c.args.place < c.self.inside.count = omega (arith, c.requires.within, rows_count c.self.inside.long c.self.inside.count c.self.inside.numbers, ap (λ (r : RowsState). length r.rows) c.self.view_is) in
    omega (arith, c.requires.long, ap (λ (r : RowsState). r.long) c.self.view_is, c.self.invariant, row_within c.self.inside.long c.self.inside.count c.args.place low)

pub returns : goal.returns
returns c =
    let long = c.self.inside.long in
    let count = c.self.inside.count in
    let numbers = c.self.inside.numbers in
    let row = c.args.row.now in
    let low : c.args.place < count = omega (arith, c.requires.within, rows_count long count numbers, ap (λ (r : RowsState). length r.rows) c.self.view_is) in
    let fits : length row ≡ long = c.requires.long ∙ sym (ap (λ (r : RowsState). r.long) c.self.view_is) in
    let there = sym (ap (λ (r : RowsState). slice_get r.rows c.args.place) c.self.view_is) ∙ row_at long count c.args.place numbers low ∙ ap (λ (n : ℕ). Some (take n (drop (c.args.place * long) numbers))) (sym fits) in
    (λ t. there ∙ ap (λ (l : List ℕ). Some l) (c.has_at.ensures.0 t), λ is. c.has_at.ensures.1 (same_Some _ _ (sym there ∙ is)))
