use Rattle.std.proofs.Common.{◌≡◌, ◌*◌, ◌<◌, List, ℕ, Some, length, take, drop, ap, sym, ◌∙◌, subst, arith}
use Rattle.std.specs.Prelude.{slice_get, IfSome}
use Rattle.pz_store.specs.Rows.{RowsState}
use Rattle.pz_store.proofs.RowLemmas.{row_at, row_long, rows_count, same_elements}
use Rattle.pz_store.proofs.rows.Rows.copy_to.Goals as goal

pub returns : goal.returns
returns c =
    let long = c.self.inside.long in
    let count = c.self.inside.count in
    let numbers = c.self.inside.numbers in
    let place = c.args.place in
    let row = take long (drop (place * long) numbers) in
    let low : place < count = omega (arith, c.requires.within, rows_count long count numbers, ap (λ (r : RowsState). length r.rows) c.self.view_is) in
    let there = sym (ap (λ (r : RowsState). slice_get r.rows place) c.self.view_is) ∙ row_at long count place numbers low in
    let same = subst (λ o. IfSome o (λ (row : List ℕ). (index : ℕ) → index < c.loop-index.index → slice_get c.loop-index.row index ≡ slice_get row index)) there c.loop-index.invariant.copied in
    let as_long : length c.loop-index.row ≡ length row = omega (arith, c.loop-index.invariant.long, ap (λ (r : RowsState). r.long) c.self.view_is, row_long long count place numbers low c.self.invariant) in
    let all : c.loop-index.row ≡ row = same_elements c.loop-index.row row as_long (λ index within. same index (omega (arith, within, c.loop-index-test.false, c.loop-index.invariant.long, ap (λ (r : RowsState). r.long) c.self.view_is))) in
    there ∙ ap (λ (l : List ℕ). Some l) (sym all)
