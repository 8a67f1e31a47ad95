use Rattle.std.proofs.Common.{◌≡◌, ◌<◌, Some, length, ap, sym, ◌∙◌, subst, arith}
use Rattle.std.specs.Prelude.{slice_get, IfSome}
use Rattle.pz_store.specs.Rows.{RowsState}
use Rattle.pz_store.proofs.RowLemmas.{number_at, row_at, rows_count, row_within}
use Rattle.pz_store.proofs.rows.Rows.get.Goals as goal

pub overflow_mul-place : goal.overflow_mul-place
overflow_mul-place c =
    let low : c.args.place < c.self.inside.count = omega (arith, c.requires.within, rows_count c.self.inside.long c.self.inside.count c.self.inside.numbers, ap (λ (r : RowsState). length r.rows) c.self.view_is) in
    omega (arith, c.len.type_inv, c.len.ensures, c.self.invariant, row_within c.self.inside.long c.self.inside.count c.args.place low)

pub overflow_add-place : goal.overflow_add-place
overflow_add-place c =
    let low : c.args.place < c.self.inside.count = omega (arith, c.requires.within, rows_count c.self.inside.long c.self.inside.count c.self.inside.numbers, ap (λ (r : RowsState). length r.rows) c.self.view_is) in
    let there : c.args.index < c.self.inside.long = omega (arith, c.requires.there, ap (λ (r : RowsState). r.long) c.self.view_is) in
    omega (arith, there, c.len.type_inv, c.len.ensures, c.self.invariant, row_within c.self.inside.long c.self.inside.count c.args.place low)

pub get-requires : goal.get-requires
get-requires c =
    let low : c.args.place < c.self.inside.count = omega (arith, c.requires.within, rows_count c.self.inside.long c.self.inside.count c.self.inside.numbers, ap (λ (r : RowsState). length r.rows) c.self.view_is) in
    let there : c.args.index < c.self.inside.long = omega (arith, c.requires.there, ap (λ (r : RowsState). r.long) c.self.view_is) in
    omega (arith, there, c.self.invariant, row_within c.self.inside.long c.self.inside.count c.args.place low)

pub returns : goal.returns
returns c =
    let long = c.self.inside.long in
    let count = c.self.inside.count in
    let numbers = c.self.inside.numbers in
    let low : c.args.place < count = omega (arith, c.requires.within, rows_count long count numbers, ap (λ (r : RowsState). length r.rows) c.self.view_is) in
    let there : c.args.index < long = omega (arith, c.requires.there, ap (λ (r : RowsState). r.long) c.self.view_is) in
    let row = sym (row_at long count c.args.place numbers low) ∙ ap (λ (r : RowsState). slice_get r.rows c.args.place) c.self.view_is in
    subst (λ o. IfSome o (λ row. slice_get row c.args.index ≡ Some c.get.result)) row (number_at long c.args.place c.args.index numbers there ∙ c.get.ensures)
