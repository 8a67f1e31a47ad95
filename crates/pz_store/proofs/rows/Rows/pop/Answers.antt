use Rattle.std.proofs.Common.{◌≡◌, ◌-◌, ◌<◌, suc, take, List, ℕ, length, ap, sym, ◌∙◌, arith}
use Rattle.pz_store.specs.Rows.{RowsState, rows_in}
use Rattle.pz_store.proofs.RowLemmas.{rows_count, rows_less, row_within}
use Rattle.pz_store.proofs.rows.Rows.pop.Goals as goal

pub overflow_mul-self-inside : goal.overflow_mul-self-inside
overflow_mul-self-inside c =
    let some : 0 < c.self.inside.count = omega (arith, c.requires.some, rows_count c.self.inside.long c.self.inside.count c.self.inside.numbers, ap (λ (r : RowsState). length r.rows) c.self.view_is) in
    omega (arith, c.len.type_inv, c.len.ensures, c.self.invariant, row_within c.self.inside.long c.self.inside.count (c.self.inside.count - 1) (omega (arith, some)))

pub returns-clause-popped : goal.returns-clause-popped
returns-clause-popped c =
    let long = c.self.inside.long in
    let count = c.self.inside.count in
    let numbers = c.self.inside.numbers in
    let as_many : count ≡ length c.args.self.now.rows = sym (rows_count long count numbers) ∙ ap (λ (r : RowsState). length r.rows) c.self.view_is in
    let back : suc (count - 1) ≡ count = omega (arith, as_many, c.requires.some) in
    ap (λ (l : List ℕ). rows_in long (count - 1) l) c.truncate.ensures ∙ rows_less long (count - 1) numbers
    ∙ ap (λ (n : ℕ). take (count - 1) (rows_in long n numbers)) back ∙ ap (λ (r : RowsState). take (count - 1) r.rows) c.self.view_is
    ∙ ap (λ (n : ℕ). take (n - 1) c.args.self.now.rows) as_many
